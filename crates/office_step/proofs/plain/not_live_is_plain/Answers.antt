use Rattle.office_step.proofs.Exactly.Standing.{not_live_is_plain}
use Rattle.office_step.proofs.plain.not_live_is_plain.Goals as goal

pub returns : goal.returns
returns c = not_live_is_plain
