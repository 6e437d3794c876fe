use Rattle.desk_history.proofs.Following.{notes_are_learned}
use Rattle.desk_history.proofs.laws.notes_are_learned.Goals as goal

pub returns : goal.returns
returns c = notes_are_learned
