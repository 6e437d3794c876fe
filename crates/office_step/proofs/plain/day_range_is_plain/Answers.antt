use Rattle.office_step.proofs.Exactly.Days.{day_range_is_plain}
use Rattle.office_step.proofs.plain.day_range_is_plain.Goals as goal

pub returns : goal.returns
returns c = day_range_is_plain
