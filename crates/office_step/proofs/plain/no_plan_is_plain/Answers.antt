use Rattle.office_step.proofs.Exactly.Planned.{no_plan_is_plain}
use Rattle.office_step.proofs.plain.no_plan_is_plain.Goals as goal

pub returns : goal.returns
returns c = no_plan_is_plain
