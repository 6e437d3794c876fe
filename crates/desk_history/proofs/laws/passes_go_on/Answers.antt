use Rattle.desk_history.proofs.Following.{passes_go_on}
use Rattle.desk_history.proofs.laws.passes_go_on.Goals as goal

pub returns : goal.returns
returns c = passes_go_on
