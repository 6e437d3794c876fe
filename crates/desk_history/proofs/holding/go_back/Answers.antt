use Rattle.std.proofs.Common.{arith}
use Rattle.desk_history.proofs.Comings.{goes_back_as}
use Rattle.desk_history.proofs.holding.go_back.Goals as goal

pub split_seat-requires : goal.split_seat-requires
split_seat-requires c =
    let table = c.requires.table in
    (table.0, omega (arith, table.1), goes_back_as _ _ _ c.requires.held)
