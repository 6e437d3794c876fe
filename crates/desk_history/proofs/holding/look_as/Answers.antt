use Rattle.std.proofs.Common.{arith}
use Rattle.desk_history.proofs.Steps.{looks_as}
use Rattle.desk_history.proofs.holding.look_as.Goals as goal

pub load-requires : goal.load-requires
load-requires g c =
    let table = c.requires.table in
    (table.0, omega (arith, table.1), looks_as _ _ _ _ _ _ c.requires.held c.requires.rose c.requires.wanted)
