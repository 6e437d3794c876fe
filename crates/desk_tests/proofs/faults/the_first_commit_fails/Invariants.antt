use Rattle.std.specs.Prelude.{◌≡◌}
use Rattle.book_rows.specs.Book.{book_of, empty_book}
use Rattle.desk_tests.proofs.faults.the_first_commit_fails.Given as goal

abbrev pub ghosts-begun_tables : goal.ghosts-begun_tables
ghosts-begun_tables g a = record { table = a.history.table.shared.table_id; told = λ book. book ≡ empty_book; sound = ⊥ }

abbrev pub ghosts-failing : goal.ghosts-failing
ghosts-failing g a = record { table = a.history.table.shared.table_id; told = λ book. book ≡ book_of a.tables; sound = ⊥ }
