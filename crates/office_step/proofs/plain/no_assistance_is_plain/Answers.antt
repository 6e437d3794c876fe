use Rattle.office_step.proofs.Exactly.Admitted.{no_assistance_is_plain}
use Rattle.office_step.proofs.plain.no_assistance_is_plain.Goals as goal

pub returns : goal.returns
returns c = no_assistance_is_plain
