use Rattle.office_step.proofs.Exactly.Closing.{rent_due_is_plain}
use Rattle.office_step.proofs.plain.rent_due_is_plain.Goals as goal

pub returns : goal.returns
returns c = rent_due_is_plain
