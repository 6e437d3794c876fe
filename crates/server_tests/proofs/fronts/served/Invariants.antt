use Rattle.std.specs.Prelude.{◌≡◌}
use Rattle.server_tests.proofs.fronts.served.Given as goal

abbrev pub ghosts-served_by : goal.ghosts-served_by
ghosts-served_by g a = record { table = a.history.table.shared.table_id; told = λ book. book ≡ a.keeper.book; sound = ⊥ }
