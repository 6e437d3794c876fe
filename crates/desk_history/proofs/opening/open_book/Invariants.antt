use Rattle.desk_history.proofs.opening.open_book.Given as goal
use Rattle.book_rows.specs.Book.{book_of as rows_of}
use Rattle.desk_history.specs.declared.views.View.TheVariants.{Free}
use Rattle.desk_history.specs.Seen.{start_on}
use Rattle.desk_history.specs.Moves.{opened}

abbrev pub ghosts-open_book_as : goal.ghosts-open_book_as
ghosts-open_book_as g a = record { view = Free (opened (start_on (rows_of a.tables.now) a.most_acts a.most_lines) (g.K.Keeper.faults a.keeper.now)) }
