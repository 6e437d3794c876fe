-- What an office knows of a book with one more act.
use Rattle.std.specs.Prelude.{◌≡◌}
use Rattle.book_rows.specs.{declared.rows.Batch.Batch, Book.Book, Book.appended}
use Rattle.office_step.specs.{declared.call.Capacity.Capacity, Known.known_of, After.known_after, Step.IsAppended, Step.IsReached}

-- what is known by the longer book is what is known after the act
abbrev pub KnownAfter : Type 0
KnownAfter = (capacity : Capacity) (book : Book) (rows : Batch) → IsReached capacity book → (appends : IsAppended capacity book rows) →
    known_of (appended book rows) ≡ known_after (known_of book) appends.call.command rows.made
