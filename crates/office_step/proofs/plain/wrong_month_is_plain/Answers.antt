use Rattle.office_step.proofs.Exactly.Months.{wrong_month_is_plain}
use Rattle.office_step.proofs.plain.wrong_month_is_plain.Goals as goal

pub returns : goal.returns
returns c = wrong_month_is_plain
