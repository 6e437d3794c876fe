use Rattle.std.proofs.Common.{arith}
use Rattle.desk_history.proofs.Notes.{reads_both_as}
use Rattle.desk_history.proofs.merging.read_both_as.Goals as goal

pub load-requires : goal.load-requires
load-requires g c =
    let table = c.requires.table in
    (table.0, omega (arith, table.1), reads_both_as _ _ _ _ _ _ c.requires.merging c.requires.wanted)
