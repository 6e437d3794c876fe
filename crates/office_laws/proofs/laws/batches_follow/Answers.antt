use Rattle.office_laws.proofs.Reached.{batches_follow}
use Rattle.office_laws.proofs.laws.batches_follow.Goals as goal

pub returns : goal.returns
returns c = batches_follow
