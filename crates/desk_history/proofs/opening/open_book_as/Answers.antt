use Rattle.std.proofs.Common.{arith}
use Rattle.desk_history.proofs.Comings.{opens_as}
use Rattle.desk_history.proofs.opening.open_book_as.Goals as goal

pub load-requires : goal.load-requires
load-requires g c =
    let table = c.requires.table in
    (table.0, omega (arith, table.1), opens_as _ _ _ _ _ _ c.requires.blank c.requires.wanted)
