use Rattle.desk_history.proofs.Following.{entries_are_of_the_number}
use Rattle.desk_history.proofs.laws.entries_are_those_of_the_number.Goals as goal

pub returns : goal.returns
returns c = entries_are_of_the_number
