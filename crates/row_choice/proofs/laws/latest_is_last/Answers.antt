use Rattle.row_choice.proofs.LatestLemmas.{latest-is}
use Rattle.row_choice.proofs.laws.latest_is_last.Goals as goal

pub returns : goal.returns
returns c s before passes rows order = latest-is before passes rows order
