use Rattle.office_step.proofs.Exactly.Replies.{certified_is_plain}
use Rattle.office_step.proofs.plain.certified_is_plain.Goals as goal

pub returns : goal.returns
returns c = certified_is_plain
