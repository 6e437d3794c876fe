use Rattle.std.specs.Prelude.{◌≡◌}
use Rattle.book_rows.specs.Book.{book_of, empty_book}
use Rattle.session_tests.proofs.cuts.sessions_are_cut_at_each_byte.Given as goal

abbrev pub ghosts-begun_tables : goal.ghosts-begun_tables
ghosts-begun_tables g a = record { table = a.history.table.shared.table_id; told = λ book. book ≡ empty_book; sound = ⊥ }

abbrev pub ghosts-at_each_byte : goal.ghosts-at_each_byte
ghosts-at_each_byte g a = record { table = a.history.table.shared.table_id; told = λ book. book ≡ book_of a.tables; sound = ⊥ }
