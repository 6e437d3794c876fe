use Rattle.office_step.proofs.Exactly.Closing.{overdue_is_plain}
use Rattle.office_step.proofs.plain.overdue_is_plain.Goals as goal

pub returns : goal.returns
returns c = overdue_is_plain
