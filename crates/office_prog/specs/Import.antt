-- What `import` does to the book that was opened: the rows of the input are answered on it.
use Rattle.std.specs.Prelude.{◌≡◌, ◌≤◌, ◌<◌, ◌⊎◌, ℕ, Option, Some, None, IfSome, List, length, codes}
use Rattle.std.specs.Io.KnownBytes.{Consumes, Keeps as KeepsBytes}
use Rattle.office_io.specs.declared.status.ExitStatus.{ExitStatus}
use Rattle.office_io.specs.Transfer.{Takes}
use Rattle.book_rows.specs.Book.{Book}
use Rattle.applicant_rows.specs.{declared.row.ImportRow.ImportRow, Applicants.applicants_in}
use Rattle.batch_command.specs.{declared.ending.Ending.Ending, Answers.Blames}
use Rattle.import_command.specs.Rows.{RowsRan, LeavesByRow}
use Rattle.program_answers.specs.{Answer.Answer, Answer.Ends, Opening.Door, Opening.largest}
use Rattle.office_prog.specs.Batch.{status_of}

-- the most bytes of an import
abbrev pub import_limit : ℕ
import_limit = 4194304

-- another header is refused
abbrev pub other_header : Answer
other_header = record { status = ExitStatus.Refused; text = codes "{\"refused\":{\"kind\":\"Form\",\"path\":\"header\"}}\n" }

-- the rows were answered, and just the one that is blamed counted a fault
pub record RowsAnswered (shows : ℕ → Type 0) (rows : List ImportRow) (start after : Book) (old new : Door) (status : ExitStatus) : Type 0 where
  pub ending : Ending
  pub ran : RowsRan largest shows rows start after old.held new.held ending
  pub blames : Blames old.counts new.counts ending
  pub status_is : status ≡ status_of ending

-- the header was refused
pub record HeaderRefused (start after : Book) (old new : Door) (status : ExitStatus) : Type 0 where
  pub same : after ≡ start
  pub told : Ends other_header old.held new.held old.counts.sink new.counts.sink status
  pub source : new.counts.source ≡ old.counts.source
  pub keeper : new.counts.keeper ≡ old.counts.keeper

-- no row was answered, for that reason: nothing was written and nothing kept
pub record Unanswered (ending : Ending) (start after : Book) (old new : Door) (status : ExitStatus) : Type 0 where
  pub same : after ≡ start
  pub held : KeepsBytes old.held new.held
  pub blames : Blames old.counts new.counts ending
  pub status_is : status ≡ status_of ending

-- by what stands under the header, if it is the right one
abbrev pub AnswersRows : (ℕ → Type 0) → Option (List ImportRow) → Book → Book → Door → Door → ExitStatus → Type 0
AnswersRows shows (Some rows) start after old new status = RowsAnswered shows rows start after old new status
AnswersRows shows None start after old new status = HeaderRefused start after old new status

-- an input of a fitting length is answered, unless memory runs out before the first row
abbrev pub AnswersInput : ℕ → (ℕ → Type 0) → List ℕ → Book → Book → Door → Door → ExitStatus → Type 0
AnswersInput clerk shows input start after old new status =
    AnswersRows shows (applicants_in clerk input) start after old new status ⊎ Unanswered Ending.NoMemory start after old new status

-- The whole input was taken and is answered; or one byte more than it may have was taken; or the source failed; or there was
-- not the memory for it, and nothing was taken.
abbrev pub Imported : ℕ → (ℕ → Type 0) → Book → Book → Door → Door → ExitStatus → Type 0
Imported clerk shows start after old new status =
    ((input : List ℕ) × (length input ≤ import_limit) × Takes import_limit old.left new.left input × AnswersInput clerk shows input start after old new status)
    ⊎ (((input : List ℕ) × (import_limit < length input) × Takes import_limit old.left new.left input × Unanswered Ending.TooLong start after old new status)
    ⊎ (((input : List ℕ) × (length input ≤ import_limit) × Consumes old.left new.left input × Unanswered Ending.ReadFault start after old new status)
    ⊎ ((new.left ≡ old.left) × Unanswered Ending.NoMemory start after old new status)))

-- a crash leaves the book that the office has, or the one that it would have made of it by one of the rows under the header
abbrev pub LeavesByInput : ℕ → (ℕ → Type 0) → Option (List ℕ) → Book → Option Book → Type 0
LeavesByInput clerk shows left held after =
    (after ≡ Some held)
    ⊎ ((rows : List ImportRow) × IfSome left (λ input. applicants_in clerk input ≡ Some rows) × LeavesByRow largest shows rows held after)
