use Rattle.desk_history.proofs.noting.read_note.Given as goal
use Rattle.desk_history.specs.declared.views.View.TheVariants.{Home}
use Rattle.desk_history.specs.Seen.{pass_of, note_of}
use Rattle.desk_history.specs.Moves.{learned}

abbrev pub ghosts-read_note_as : goal.ghosts-read_note_as
ghosts-read_note_as a = record { view = Home (learned (pass_of a.pass.now.me.0) (note_of a.pass.now.me.0)) }
