-- Each act of a book at its place: the book that it found, and the rows that it made.
use Rattle.std.specs.Prelude.{ℕ, ◌==◌, nat_lt, Some, ◌≡◌, Contains, filter, find}
use Rattle.book_rows.specs.{declared.rows.ActRow.ActRow, declared.rows.Batch.Batch, declared.command.Command.Command, Book.Book, Book.appended}
use Rattle.command_forms.specs.Commands.{command_in}
use Rattle.office_step.specs.{declared.call.Capacity.Capacity, Known.Known, Known.known_of, Step.IsAppended, Step.IsReached}
use Rattle.office_laws.specs.History.{IsLater}

-- the book before an act: the rows of earlier acts
abbrev pub book_before : Book → ℕ → Book
book_before book n = record {
  acts = filter (λ row. nat_lt row.n n) book.acts;
  records = filter (λ r. nat_lt r.act n) book.records;
  lines = filter (λ line. nat_lt line.act n) book.lines;
}

-- the rows of an act: its own, its record and its lines
abbrev pub rows_by : Book → ActRow → Batch
rows_by book row = record {
  act = row;
  made = find (λ r. r.act == row.n) book.records;
  lines = filter (λ line. line.act == row.n) book.lines;
}

-- an office comes to the book before the act, appends just the act's rows to it, and comes from there to the book
pub record IsInPlace (capacity : Capacity) (book : Book) (row : ActRow) : Type 0 where
  pub reached : IsReached capacity (book_before book row.n)
  pub appends : IsAppended capacity (book_before book row.n) (rows_by book row)
  pub later : IsLater capacity (appended (book_before book row.n) (rows_by book row)) book

-- so it is with every act of a book
abbrev pub ActsAreInPlace : Type 0
ActsAreInPlace = (capacity : Capacity) (book : Book) → IsReached capacity book → (row : ActRow) → Contains book.acts row → IsInPlace capacity book row

-- it holds of each act of the book: of what was known before it, of the rows that it made and of its command
abbrev pub OfEachAct : Book → (Known → Batch → Command → Type 0) → Type 0
OfEachAct book Holds =
    (row : ActRow) (asked : Command) → Contains book.acts row → command_in row.body ≡ Some asked →
    Holds (known_of (book_before book row.n)) (rows_by book row) asked
