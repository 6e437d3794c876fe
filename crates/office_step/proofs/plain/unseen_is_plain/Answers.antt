use Rattle.office_step.proofs.Exactly.Seen.{unseen_is_plain}
use Rattle.office_step.proofs.plain.unseen_is_plain.Goals as goal

pub returns : goal.returns
returns c = unseen_is_plain
