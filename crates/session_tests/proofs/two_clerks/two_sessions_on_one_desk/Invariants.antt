use Rattle.std.specs.Prelude.{◌≡◌}
use Rattle.book_rows.specs.Book.{book_of, empty_book}
use Rattle.session_tests.proofs.two_clerks.two_sessions_on_one_desk.Given as goal

abbrev pub ghosts-begun_tables : goal.ghosts-begun_tables
ghosts-begun_tables g a = record { table = a.history.table.shared.table_id; told = λ book. book ≡ empty_book; sound = ⊥ }

abbrev pub ghosts-in_turn : goal.ghosts-in_turn
ghosts-in_turn g a = record { table = a.history.table.shared.table_id; told = λ book. book ≡ book_of a.tables; sound = ⊥ }
