use Rattle.std.proofs.Common.{arith}
use Rattle.certified_figures.proofs.Family.{has_family}
use Rattle.certified_figures.proofs.certified.persons.Goals as goal

pub overflow_cast-result : goal.overflow_cast-result
overflow_cast-result c = rw c.as_slice.ensures (omega (arith, (has_family c.args.facts.now c.args.day c.requires).few_persons))
