use Rattle.std.proofs.Common.{arith}
use Rattle.desk_history.proofs.Steps.{books_as}
use Rattle.desk_history.proofs.holding.append_as.Goals as goal

pub fetch_add-requires : goal.fetch_add-requires
fetch_add-requires g c =
    let table = c.requires.table in
    (table.0, omega (arith, table.1), books_as _ _ _ _ _ _ c.requires.held c.requires.own c.requires.few c.requires.wanted)
