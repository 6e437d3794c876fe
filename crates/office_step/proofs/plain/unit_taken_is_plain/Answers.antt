use Rattle.office_step.proofs.Exactly.Tenancy.{unit_taken_is_plain}
use Rattle.office_step.proofs.plain.unit_taken_is_plain.Goals as goal

pub returns : goal.returns
returns c = unit_taken_is_plain
