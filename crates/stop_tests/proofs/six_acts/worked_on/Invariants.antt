use Rattle.sqlite.specs.Held.{state}
use Rattle.keeper_sqlite.specs.Told.{Holds}
use Rattle.stop_tests.proofs.six_acts.worked_on.Given as goal

abbrev pub ghosts-worked : goal.ghosts-worked
ghosts-worked g a = record { table = a.history.table.shared.table_id; told = Holds (state g.S.Store a.keeper.file) a.keeper.is_beside; sound = ⊥ }
