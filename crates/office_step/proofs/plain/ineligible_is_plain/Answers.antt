use Rattle.office_step.proofs.Exactly.Admitted.{ineligible_is_plain}
use Rattle.office_step.proofs.plain.ineligible_is_plain.Goals as goal

pub returns : goal.returns
returns c = ineligible_is_plain
