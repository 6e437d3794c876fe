use Rattle.office_step.proofs.Exactly.Acceptance.{acceptance_is_plain}
use Rattle.office_step.proofs.plain.acceptance_is_plain.Goals as goal

pub returns : goal.returns
returns c = acceptance_is_plain
