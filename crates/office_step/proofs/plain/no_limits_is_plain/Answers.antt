use Rattle.office_step.proofs.Exactly.Standing.{no_limits_is_plain}
use Rattle.office_step.proofs.plain.no_limits_is_plain.Goals as goal

pub returns : goal.returns
returns c = no_limits_is_plain
