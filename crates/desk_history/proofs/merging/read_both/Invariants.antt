use Rattle.desk_history.proofs.merging.read_both.Given as goal
use Rattle.desk_history.specs.declared.views.View.TheVariants.{Noted}
use Rattle.desk_history.specs.Seen.{note_of, other_of}
use Rattle.desk_history.specs.Moves.{merged}

abbrev pub ghosts-read_both_as : goal.ghosts-read_both_as
ghosts-read_both_as a = record { view = Noted (merged (note_of a.notes.now.me.0) (other_of a.notes.now.me.0)) }
