use Rattle.std.specs.Prelude.{◌≡◌}
use Rattle.book_rows.specs.Book.{book_of, empty_book}
use Rattle.session_tests.proofs.meanwhile.a_question_sees_an_act_of_another_session.Given as goal

abbrev pub ghosts-begun_tables : goal.ghosts-begun_tables
ghosts-begun_tables g a = record { table = a.history.table.shared.table_id; told = λ book. book ≡ empty_book; sound = ⊥ }

abbrev pub ghosts-at_a_begun_desk : goal.ghosts-at_a_begun_desk
ghosts-at_a_begun_desk g a = record { table = a.history.table.shared.table_id; told = λ book. book ≡ book_of a.tables; sound = ⊥ }
