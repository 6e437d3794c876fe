use Rattle.office_step.proofs.Exactly.Rightful.{wrong_day_is_plain}
use Rattle.office_step.proofs.plain.wrong_day_is_plain.Goals as goal

pub returns : goal.returns
returns c = wrong_day_is_plain
