use Rattle.std.specs.Prelude.{◌≡◌}
use Rattle.stop_tests.proofs.six_acts.wanted_after.Given as goal

abbrev pub ghosts-worked : goal.ghosts-worked
ghosts-worked g a = record { table = a.history.table.shared.table_id; told = λ book. book ≡ a.keeper.book; sound = ⊥ }
