-- The order of the rows of a book, by which they are found.
use Rattle.std.specs.Prelude.{◌<◌, ◌≤◌, List, AllPairs}
use Rattle.record_history.specs.declared.records.Record.{Record}
use Rattle.voucher_core.specs.declared.line.Line.{Line}
use Rattle.book_rows.specs.{declared.rows.ActRow.ActRow, declared.rows.Batch.Batch, Book.Book, Book.empty_book, Book.appended, Book.IsBatch, Book.IsBefore}

-- each act has a greater number than those before it
abbrev pub ActsRise : List ActRow → Type 0
ActsRise acts = AllPairs (λ act next. act.n < next.n) acts

-- each record is of a later act than those before it
abbrev pub RecordsRise : List Record → Type 0
RecordsRise records = AllPairs (λ r next. r.act < next.act) records

-- no line is of an earlier act than one before it
abbrev pub LinesNeverFall : List Line → Type 0
LinesNeverFall lines = AllPairs (λ line next. line.act ≤ next.act) lines

-- the rows of a book stand in the order of their acts
pub record RowsAreInOrder (book : Book) : Type 0 where
  pub acts : ActsRise book.acts
  pub records : RecordsRise book.records
  pub lines : LinesNeverFall book.lines

-- an empty book is in order, and stays so by the rows of a later act
pub record BookStaysInOrder : Type 0 where
  pub empty : RowsAreInOrder empty_book
  pub appended : (book : Book) (batch : Batch) → RowsAreInOrder book → IsBefore book batch.act.n → IsBatch batch → RowsAreInOrder (appended book batch)
