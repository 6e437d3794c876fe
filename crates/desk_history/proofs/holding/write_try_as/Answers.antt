use Rattle.std.proofs.Common.{arith}
use Rattle.desk_history.proofs.Steps.{tries_as}
use Rattle.desk_history.proofs.holding.write_try_as.Goals as goal

pub load-requires : goal.load-requires
load-requires g c =
    let table = c.requires.table in
    (table.0, omega (arith, table.1), tries_as _ _ _ _ _ _ _ c.requires.held c.requires.own c.requires.rose c.requires.wanted)
