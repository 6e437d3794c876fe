use Rattle.std.proofs.Common.{arith}
use Rattle.certified_figures.proofs.Family.{has_family}
use Rattle.certified_figures.proofs.certified.family_size.Goals as goal

pub overflow_cast-result : goal.overflow_cast-result
overflow_cast-result c =
    let count = rw c.as_slice.ensures at c.family_members.ensures in
    omega (arith, count, (has_family c.args.facts.now c.args.day c.requires).few)

pub returns-clause-one : goal.returns-clause-one
returns-clause-one c =
    let count = rw c.as_slice.ensures at c.family_members.ensures in
    omega (arith, count, (has_family c.args.facts.now c.args.day c.requires).one)

pub returns-clause-few : goal.returns-clause-few
returns-clause-few c =
    let count = rw c.as_slice.ensures at c.family_members.ensures in
    omega (arith, count, (has_family c.args.facts.now c.args.day c.requires).few)

pub returns-clause-few_persons : goal.returns-clause-few_persons
returns-clause-few_persons c = (has_family c.args.facts.now c.args.day c.requires).few_persons
