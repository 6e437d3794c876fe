-- A book is what its acts give when they are done again.
use Rattle.std.specs.Prelude.{◌≡◌, ◌+◌, ℕ, Some, length, fold}
use Rattle.book_rows.specs.{declared.rows.ActRow.ActRow, declared.rows.Batch.Batch, Book.Book, Book.empty_book}
use Rattle.office_step.specs.{declared.call.Call.Call, declared.call.Capacity.Capacity, Step.appends, Step.step, Step.IsAppended, Step.IsReached, Valid.replayed, Valid.with_rows}

-- the book with the rows that the act gives when it is done again
abbrev pub after_row : Capacity → Book → ActRow → Book
after_row capacity book row = with_rows book (replayed capacity book row)

-- the acts of a book, done again from nothing, give that book
abbrev pub ActsGiveTheBook : Type 0
ActsGiveTheBook = (capacity : Capacity) (book : Book) → IsReached capacity book → fold (after_row capacity) empty_book book.acts ≡ book

-- what was appended is given again
abbrev pub AppendedIsReplayed : Type 0
AppendedIsReplayed = (capacity : Capacity) (book : Book) (rows : Batch) → IsAppended capacity book rows → replayed capacity book rows.act ≡ Some rows

-- and what is given again is appended, whether or not it has the row that was done again
abbrev pub ReplayedIsAppended : Type 0
ReplayedIsAppended = (capacity : Capacity) (book : Book) (row : ActRow) (rows : Batch) →
    replayed capacity book row ≡ Some rows → IsAppended capacity book rows

-- the rows of a call have its session and the next number
abbrev pub RowsAreOfTheSession : Type 0
RowsAreOfTheSession = (capacity : Capacity) (book : Book) (session clock : ℕ) (call : Call) (rows : Batch) →
    step book capacity session clock call ≡ appends rows → (rows.act.session ≡ session) × (rows.act.n ≡ length book.acts + 1)
