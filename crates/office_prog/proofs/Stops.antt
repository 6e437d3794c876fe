-- What a crash may leave of a book to which an input was answered.
use Rattle.std.proofs.Common.{◌≡◌, inl, inr, ℕ, List, Option, None, Some, IfSome, subst}
use Rattle.book_rows.specs.Book.{Book}
use Rattle.applicant_rows.specs.{declared.row.ImportRow.ImportRow, Applicants.applicants_in}
use Rattle.batch_command.specs.Below.office_step.declared.call.Capacity.{Capacity}
use Rattle.batch_command.specs.Below.clerk_desk.Serving.{IsLeft, Outlives}
use Rattle.batch_command.specs.Batch.{LeavesByLine}
use Rattle.import_command.specs.Rows.{LeavesByRow}
use Rattle.program_answers.specs.Opening.{largest}
use Rattle.office_prog.specs.Import.{LeavesByInput}

-- a way to leave a book that is a case of another
pub outlives_as : (Is Other : Book → Option Book → Type 0) (holds holds_now : Book → Type 0) (leaves leaves_now : Option Book → Type 0) {tells tells_now : Type 0}
    → ((held : Book) (after : Option Book) → Is held after → Other held after)
    → Outlives Is holds leaves tells holds_now leaves_now tells_now → Outlives Other holds leaves tells holds_now leaves_now tells_now
outlives_as Is Other holds holds_now leaves leaves_now case done sound telling now h after l = case now after (done sound telling now h after l)

-- where nothing was asked of the keeper
pub outlives_still : (Is : Book → Option Book → Type 0) (holds : Book → Type 0) (leaves : Option Book → Type 0) {tells : Type 0}
    → ((held : Book) (after : Option Book) → after ≡ Some held → Is held after) → Outlives Is holds leaves tells holds leaves tells
outlives_still Is holds leaves same sound telling now h after l = same now after (sound telling now h after l)

pub line_is_left : (shows : ℕ → Type 0) (left : Option (List ℕ)) (held : Book) (after : Option Book) → LeavesByLine largest shows left held after → IsLeft largest held after
line_is_left shows left held after (inl same) = inl same
line_is_left shows left held after (inr (line, inside, made)) = inr (_, made.2)

row_is_left : (shows : ℕ → Type 0) (rows : List ImportRow) (held : Book) (after : Option Book) → LeavesByRow largest shows rows held after → IsLeft largest held after
row_is_left shows rows held after (inl same) = inl same
row_is_left shows rows held after (inr (row, inside, made)) = inr (_, made.2)

pub input_is_left : (clerk : ℕ) (shows : ℕ → Type 0) (left : Option (List ℕ)) (held : Book) (after : Option Book) → LeavesByInput clerk shows left held after → IsLeft largest held after
input_is_left clerk shows left held after (inl same) = inl same
input_is_left clerk shows left held after (inr (rows, are, by_row)) = row_is_left shows rows held after by_row

-- the rows are those of the input
pub rows_of_input : (clerk : ℕ) (shows : ℕ → Type 0) (capacity : Capacity) (input : List ℕ) (rows : List ImportRow) → capacity ≡ largest → applicants_in clerk input ≡ Some rows
    → (held : Book) (after : Option Book) → LeavesByRow capacity shows rows held after → LeavesByInput clerk shows (Some input) held after
rows_of_input clerk shows capacity input rows same are held after by_row =
    inr (rows, are, subst (λ (k : Capacity). LeavesByRow k shows rows held after) same by_row)

-- and the input is all that the source had
pub input_of_source : (clerk : ℕ) (shows : ℕ → Type 0) (left : Option (List ℕ)) (input : List ℕ) → IfSome left (λ told. input ≡ told)
    → (held : Book) (after : Option Book) → LeavesByInput clerk shows (Some input) held after → LeavesByInput clerk shows left held after
input_of_source clerk shows left input all held after (inl same) = inl same
input_of_source clerk shows None input all held after (inr (rows, are, by_row)) = inr (rows, tt, by_row)
input_of_source clerk shows (Some told) input all held after (inr (rows, are, by_row)) =
    inr (rows, subst (λ (bytes : List ℕ). applicants_in clerk bytes ≡ Some rows) all are, by_row)
