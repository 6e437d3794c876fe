use Rattle.office_step.proofs.Exactly.Acceptance.{refusal_is_plain}
use Rattle.office_step.proofs.plain.refusal_is_plain.Goals as goal

pub returns : goal.returns
returns c = refusal_is_plain
