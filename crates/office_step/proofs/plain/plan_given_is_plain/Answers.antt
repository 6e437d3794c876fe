use Rattle.office_step.proofs.Exactly.Planned.{plan_given_is_plain}
use Rattle.office_step.proofs.plain.plan_given_is_plain.Goals as goal

pub returns : goal.returns
returns c = plan_given_is_plain
