use Rattle.std.proofs.Common.{rules}
use Rattle.simulation.proofs.Sums.{both}
use Rattle.simulation.proofs.summary.total_of_both.Goals as goal

pub returns : goal.returns
returns c = rw (both c.args.lines.now) (search rules)
