use Rattle.desk_history.proofs.Following.{others_stay}
use Rattle.desk_history.proofs.laws.others_stay.Goals as goal

pub returns : goal.returns
returns c = others_stay
