use Rattle.std.specs.Prelude.{◌≡◌}
use Rattle.book_rows.specs.Book.{empty_book}
use Rattle.desk_tests.proofs.passes.thirty_two_passes.Given as goal

abbrev pub ghosts-all_handed_out : goal.ghosts-all_handed_out
ghosts-all_handed_out g a = record { table = a.history.table.shared.table_id; told = λ book. book ≡ empty_book; sound = ⊥ }
