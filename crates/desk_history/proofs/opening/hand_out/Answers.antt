use Rattle.std.proofs.Common.{arith}
use Rattle.desk_history.proofs.Comings.{hands_out_as}
use Rattle.desk_history.proofs.opening.hand_out.Goals as goal

pub split_seat-requires : goal.split_seat-requires
split_seat-requires c =
    let table = c.requires.table in
    (table.0, omega (arith, table.1), hands_out_as _ _ _ c.requires.free)
