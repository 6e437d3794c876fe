use Rattle.std.proofs.Common.{arith}
use Rattle.desk_history.proofs.Notes.{reads_note_as}
use Rattle.desk_history.proofs.noting.read_note_as.Goals as goal

pub load-requires : goal.load-requires
load-requires g c =
    let table = c.requires.table in
    (table.0, omega (arith, table.1), reads_note_as _ _ _ _ _ _ c.requires.learning c.requires.wanted)
