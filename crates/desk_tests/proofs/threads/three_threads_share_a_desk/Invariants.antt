use Rattle.std.specs.Prelude.{◌≡◌}
use Rattle.book_rows.specs.Book.{empty_book}
use Rattle.desk_tests.proofs.threads.three_threads_share_a_desk.Given as goal

abbrev pub ghosts-by_three_threads : goal.ghosts-by_three_threads
ghosts-by_three_threads g a = record { table = a.history.table.shared.table_id; told = λ book. book ≡ empty_book; sound = ⊥ }
