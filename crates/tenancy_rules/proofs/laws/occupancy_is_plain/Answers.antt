use Rattle.tenancy_rules.proofs.FirstUse.{occupancy_is_plain}
use Rattle.tenancy_rules.proofs.laws.occupancy_is_plain.Goals as goal

pub returns : goal.returns
returns c = occupancy_is_plain
