use Rattle.office_step.proofs.Exactly.Units.{name_taken_is_plain}
use Rattle.office_step.proofs.plain.name_taken_is_plain.Goals as goal

pub returns : goal.returns
returns c = name_taken_is_plain
