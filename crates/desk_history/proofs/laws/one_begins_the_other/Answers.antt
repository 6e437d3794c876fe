use Rattle.desk_history.proofs.Following.{one_begins_the_other}
use Rattle.desk_history.proofs.laws.one_begins_the_other.Goals as goal

pub returns : goal.returns
returns c = one_begins_the_other
