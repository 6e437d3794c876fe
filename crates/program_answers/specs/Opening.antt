-- What comes of a command that works on the keeper's book: the book is opened and the command works on it, or it can't be
-- opened.
use Rattle.std.specs.Prelude.{◌≡◌, ◌⊎◌, ℕ, None, Option, List, ◌∷◌, ◌++◌, [], codes, decimal}
use Rattle.std.specs.Io.KnownBytes.{Keeps as KeepsBytes}
use Rattle.office_io.specs.declared.status.ExitStatus.{ExitStatus}
use Rattle.office_io.specs.Outside.{Faulted}
use Rattle.book_rows.specs.{declared.rows.Table.Table, Book.Book}
use Rattle.keeper_core.specs.Keeping.{BadRow, Keeps}
use Rattle.batch_command.specs.Below.office_step.{declared.call.Capacity.Capacity, declared.fault.Fault.Fault, Step.IsReached, Valid.first_fault}
use Rattle.batch_command.specs.Below.office_laws.Upheld.{IsUpheld}
use Rattle.batch_command.specs.Below.clerk_desk.{declared.opening.DeskFault.DeskFault, Opening.IsUnopened}
use Rattle.batch_command.specs.Answers.{Counts}
use Rattle.program_answers.specs.Answer.{Answer, Ends}
use Rattle.record_history.specs.Limits.{most_acts, most_lines}

-- the most acts and lines of the program's book
abbrev pub largest : Capacity
largest = record { acts = most_acts; lines = most_lines }

-- what the source has left and the sink holds, where they tell it, and how many faults were counted
pub record Door : Type 0 where
  pub left : Option (List ℕ)
  pub held : Option (List ℕ)
  pub counts : Counts

abbrev pub door : Option (List ℕ) → Option (List ℕ) → ℕ → ℕ → ℕ → Door
door left held source sink keeper = record { left = left; held = held; counts = record { source = source; sink = sink; keeper = keeper } }

-- nothing was written, and no fault was counted
pub record IsQuiet (old new : Door) : Type 0 where
  pub held : KeepsBytes old.held new.held
  pub counts : new.counts ≡ old.counts

-- The answer is written; or nothing is, where memory ran out. The keeper counted no fault.
abbrev pub Says : Answer → Door → Door → ExitStatus → Type 0
Says answer old new status =
    (Ends answer old.held new.held old.counts.sink new.counts.sink status × (new.counts.keeper ≡ old.counts.keeper))
    ⊎ ((status ≡ ExitStatus.NoMemory) × IsQuiet old new)

-- ---- the book is opened

-- An office's book was opened, and the command worked on it. The book after it is an office's too, and upholds what every
-- such book does. Where the keeper tells a book now, that is the one after it, and it told the one before it. It tells no bad
-- row.
pub record Serves (Works : Book → Book → Door → Door → ExitStatus → Type 0) (holds holds_now : Book → Type 0) (bad_now : BadRow → Type 0) (old new : Door) (status : ExitStatus) : Type 0 where
  pub start : Book
  pub after : Book
  pub valid : first_fault largest start ≡ None
  pub reached : IsReached largest after
  pub upheld : IsUpheld largest after
  pub kept : (book : Book) → holds_now book → (book ≡ after) × holds start
  pub no_bad_row : (row : BadRow) → bad_now row → ⊥
  pub works : Works start after old new status

-- ---- the book isn't opened

abbrev pub table_name : Table → List ℕ
table_name Table.Acts = codes "acts"
table_name Table.Records = codes "records"
table_name Table.Lines = codes "lines"

-- the table and the act where a book first goes wrong
abbrev pub bad_book : Fault → Answer
bad_book found = record { status = ExitStatus.BadBook; text = codes "bad book: " ++ table_name found.table ++ 32 ∷ decimal found.act ++ 10 ∷ [] }

-- The fault is written; or nothing is, where the keeper failed or memory ran out. Just the one that is blamed counted a
-- fault, of the sink and the keeper.
abbrev pub TellsFault : Door → Door → DeskFault → ExitStatus → Type 0
TellsFault old new (DeskFault.BadBook found) status = Says (bad_book found) old new status
TellsFault old new DeskFault.StoreFault status =
    (status ≡ ExitStatus.StoreFault) × KeepsBytes old.held new.held × Faulted old.counts.keeper new.counts.keeper × (new.counts.sink ≡ old.counts.sink)
TellsFault old new DeskFault.NoMemory status = (status ≡ ExitStatus.NoMemory) × IsQuiet old new

-- the book wasn't opened, for that reason, and nothing was read
pub record Fails (holds holds_now : Book → Type 0) (bad_now : BadRow → Type 0) (old new : Door) (status : ExitStatus) : Type 0 where
  pub why : DeskFault
  pub is_why : IsUnopened largest holds_now bad_now why
  pub kept : Keeps holds holds_now
  pub unread : new.left ≡ old.left
  pub unfaulted : new.counts.source ≡ old.counts.source
  pub told : TellsFault old new why status

-- ---- what comes of it

abbrev pub ComesOfBook : (Book → Book → Door → Door → ExitStatus → Type 0) → (Book → Type 0) → (Book → Type 0) → (BadRow → Type 0) → Door → Door → ExitStatus → Type 0
ComesOfBook Works holds holds_now bad_now old new status =
    Serves Works holds holds_now bad_now old new status ⊎ Fails holds holds_now bad_now old new status
