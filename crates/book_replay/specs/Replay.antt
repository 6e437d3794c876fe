-- The acts of tables, done again one after another, and what that tells of the tables.
use Rattle.std.specs.Prelude.{◌≡◌, ◌≤◌, ℕ, ◌+◌, Some, None, take, drop, length, slice_get}
use Rattle.std.specs.List.{range_with_len, flat_map}
use Rattle.book_rows.specs.{declared.rows.ActRow.ActRow, declared.rows.Batch.Batch, Book.Book, Book.empty_book, Book.appended}
use Rattle.office_step.specs.{declared.call.Capacity.Capacity, declared.fault.Fault.Fault, Step.IsReached}
use Rattle.office_step.specs.Valid.{replayed, difference, records_by, lines_by, stray_row, fault_from, first_fault, IsValid}

-- the book after that many acts of the tables were done again, and no row differed: it has these acts, each act's records
-- and lines in the tables, one act's after another's, and the tables' first fault is what the acts that are left tell
pub record IsReplayed (capacity : Capacity) (tables : Book) (count : ℕ) (book : Book) : Type 0 where
  pub reached : IsReached capacity book
  pub acts : book.acts ≡ take count tables.acts
  pub records : book.records ≡ flat_map (λ n. records_by n tables.records) (range_with_len 1 count)
  pub lines : book.lines ≡ flat_map (λ n. lines_by n tables.lines) (range_with_len 1 count)
  pub fault : first_fault capacity tables ≡ fault_from capacity tables book (drop count tables.acts)

-- ---- one act after another

abbrev pub ReplayBegins : Type 0
ReplayBegins = (capacity : Capacity) (tables : Book) → IsReplayed capacity tables 0 empty_book

-- an act whose rows do not differ is one act more
abbrev pub ReplayGoesOn : Type 0
ReplayGoesOn = (capacity : Capacity) (tables : Book) (count : ℕ) (book : Book) (row : ActRow) (rows : Batch) →
    IsReplayed capacity tables count book → slice_get tables.acts count ≡ Some row → replayed capacity book row ≡ Some rows →
    difference tables row (Some rows) ≡ None → IsReplayed capacity tables (count + 1) (appended book rows)

-- an act whose rows differ is the first fault
abbrev pub ReplayStops : Type 0
ReplayStops = (capacity : Capacity) (tables : Book) (count : ℕ) (book : Book) (row : ActRow) (fault : Fault) →
    IsReplayed capacity tables count book → slice_get tables.acts count ≡ Some row →
    difference tables row (replayed capacity book row) ≡ Some fault → first_fault capacity tables ≡ Some fault

-- after all acts, the first fault is the first row that no act made
abbrev pub ReplayEnds : Type 0
ReplayEnds = (capacity : Capacity) (tables : Book) (count : ℕ) (book : Book) →
    IsReplayed capacity tables count book → length tables.acts ≤ count → first_fault capacity tables ≡ stray_row tables

-- and where there is no such row, the book is these tables
abbrev pub ReplayedIsGiven : Type 0
ReplayedIsGiven = (capacity : Capacity) (tables : Book) (count : ℕ) (book : Book) →
    IsReplayed capacity tables count book → length tables.acts ≤ count → stray_row tables ≡ None → book ≡ tables

-- ---- valid tables

-- tables without a fault are what an office comes to
abbrev pub ValidIsReached : Type 0
ValidIsReached = (capacity : Capacity) (tables : Book) → IsValid capacity tables → IsReached capacity tables

-- and what an office comes to has no fault
abbrev pub ReachedIsValid : Type 0
ReachedIsValid = (capacity : Capacity) (book : Book) → IsReached capacity book → IsValid capacity book
