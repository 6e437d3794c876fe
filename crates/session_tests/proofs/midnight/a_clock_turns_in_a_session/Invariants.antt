use Rattle.std.specs.Prelude.{◌≡◌}
use Rattle.book_rows.specs.Book.{empty_book}
use Rattle.session_tests.proofs.midnight.a_clock_turns_in_a_session.Given as goal

abbrev pub ghosts-at_a_new_desk : goal.ghosts-at_a_new_desk
ghosts-at_a_new_desk g a = record { table = a.history.table.shared.table_id; told = λ book. book ≡ empty_book; sound = ⊥ }
