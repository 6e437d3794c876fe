-- What `batch` does to the book that was opened: the lines are answered on it.
use Rattle.std.specs.Prelude.{◌≡◌, ℕ}
use Rattle.office_io.specs.declared.status.ExitStatus.{ExitStatus}
use Rattle.book_rows.specs.Book.{Book}
use Rattle.batch_command.specs.{declared.ending.Ending.Ending, Answers.Blames, Batch.LinesRan}
use Rattle.program_answers.specs.Opening.{Door, largest}

abbrev pub status_of : Ending → ExitStatus
status_of Ending.Done = ExitStatus.Done
status_of Ending.ReadFault = ExitStatus.ReadFault
status_of Ending.WriteFault = ExitStatus.WriteFault
status_of Ending.StoreFault = ExitStatus.StoreFault
status_of Ending.NoMemory = ExitStatus.NoMemory
status_of Ending.TooLong = ExitStatus.TooLong

-- the lines of the input were answered, and just the one that is blamed counted a fault
pub record Batched (shows : ℕ → Type 0) (start after : Book) (old new : Door) (status : ExitStatus) : Type 0 where
  pub ending : Ending
  pub ran : LinesRan largest shows start after old.left new.left old.held new.held ending
  pub blames : Blames old.counts new.counts ending
  pub status_is : status ≡ status_of ending
