-- Every row of a book was appended by one act.
use Rattle.std.specs.Prelude.{◌≡◌, Some, Contains}
use Rattle.record_history.specs.declared.records.Record.{Record}
use Rattle.voucher_core.specs.declared.line.Line.{Line}
use Rattle.book_rows.specs.{declared.rows.ActRow.ActRow, declared.rows.Batch.Batch, Book.Book, Book.appended}
use Rattle.office_step.specs.{declared.call.Capacity.Capacity, Step.IsAppended, Step.IsReached}

-- a book that an office comes to from another, act by act
pub data IsLater (capacity : Capacity) (book : Book) : Book → Type 0 where
  later_same : IsLater capacity book book
  later_more : {later : Book} {rows : Batch} → IsLater capacity book later → IsAppended capacity later rows → IsLater capacity book (appended later rows)

-- the rows of an act, which were appended to an earlier book on the way to this one
pub record Past (capacity : Capacity) (book : Book) : Type 0 where
  pub earlier : Book
  pub rows : Batch
  pub reached : IsReached capacity earlier
  pub appends : IsAppended capacity earlier rows
  pub later : IsLater capacity (appended earlier rows) book

-- so is every act, every record and every line of a book
pub record CameByActs (capacity : Capacity) (book : Book) : Type 0 where
  pub acts : (row : ActRow) → Contains book.acts row → (past : Past capacity book) × (past.rows.act ≡ row)
  pub records : (r : Record) → Contains book.records r → (past : Past capacity book) × (past.rows.made ≡ Some r)
  pub lines : (line : Line) → Contains book.lines line → (past : Past capacity book) × Contains past.rows.lines line

abbrev pub RowsCameByActs : Type 0
RowsCameByActs = (capacity : Capacity) (book : Book) → IsReached capacity book → CameByActs capacity book
