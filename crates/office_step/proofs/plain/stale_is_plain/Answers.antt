use Rattle.office_step.proofs.Exactly.Seen.{stale_is_plain}
use Rattle.office_step.proofs.plain.stale_is_plain.Goals as goal

pub returns : goal.returns
returns c = stale_is_plain
