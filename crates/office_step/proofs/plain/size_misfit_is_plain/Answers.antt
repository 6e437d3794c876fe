use Rattle.office_step.proofs.Exactly.Units.{size_misfit_is_plain}
use Rattle.office_step.proofs.plain.size_misfit_is_plain.Goals as goal

pub returns : goal.returns
returns c = size_misfit_is_plain
