use Rattle.office_step.proofs.Exactly.Tenancy.{disorder_is_plain}
use Rattle.office_step.proofs.plain.disorder_is_plain.Goals as goal

pub returns : goal.returns
returns c = disorder_is_plain
