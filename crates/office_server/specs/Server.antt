-- What a server does on the book that was opened, and what it writes.
use Rattle.std.specs.Prelude.{◌≡◌, ◌<◌, ◌⊎◌, ℕ, ◌+◌, Option, Some, List, [], ◌∷◌, ◌++◌, length, codes, decimal}
use Rattle.std.specs.Io.KnownBytes.{Appends, Keeps as KeepsBytes}
use Rattle.office_io.specs.declared.status.ExitStatus.{ExitStatus}
use Rattle.office_io.specs.Outside.{Faulted}
use Rattle.office_links.specs.Links.{Links}
use Rattle.book_rows.specs.Book.{Book}
use Rattle.keeper_core.specs.Keeping.{BadRow}
use Rattle.http_front.specs.Below.clerk_desk.{Opening.IsFirstFault, Below.office_step.declared.fault.Fault.Fault}
use Rattle.program_answers.specs.{Answer.Answer, Answer.Ends, Opening.Door, Opening.Fails, Opening.bad_book, Opening.largest}
use Rattle.office_server.specs.Links.{LeavesDesk, LeavesTried, ServesInTurn, ServesTogether}

-- how many acts a book has
abbrev pub book_line : Book → Answer
book_line book = record { status = ExitStatus.Done; text = codes "book " ++ decimal (length book.acts) ++ 10 ∷ [] }

-- the answer is written; or nothing is, where memory ran out
abbrev pub Writes : Answer → Option (List ℕ) → Option (List ℕ) → ℕ → ℕ → ExitStatus → Type 0
Writes answer held held_now faults faults_now status =
    Ends answer held held_now faults faults_now status
    ⊎ ((status ≡ ExitStatus.NoMemory) × KeepsBytes held held_now × (faults_now ≡ faults))

-- ---- how the serving ended; the listener stands in the place of the source

-- no link was left, and no accept had failed
pub record ServesAll (left_now : ℕ) (tables : Book) (old new : Door) (status : ExitStatus) : Type 0 where
  pub none_left : left_now ≡ 0
  pub source : new.counts.source ≡ old.counts.source
  pub written : Writes (book_line tables) old.held new.held old.counts.sink new.counts.sink status

-- an accept failed while links were left, and nothing was written
pub record BreaksOff (left_now : ℕ) (old new : Door) (status : ExitStatus) : Type 0 where
  pub some_left : 0 < left_now
  pub source : Faulted old.counts.source new.counts.source
  pub held : KeepsBytes old.held new.held
  pub sink : new.counts.sink ≡ old.counts.sink
  pub status_is : status ≡ ExitStatus.ReadFault

-- memory ran out before a link was taken, and the listener is as it was
pub record IsUnserved {L : Type 0} (listener listener_now : L) (old new : Door) (status : ExitStatus) : Type 0 where
  pub same : listener_now ≡ listener
  pub source : new.counts.source ≡ old.counts.source
  pub held : KeepsBytes old.held new.held
  pub sink : new.counts.sink ≡ old.counts.sink
  pub status_is : status ≡ ExitStatus.NoMemory

abbrev pub EndsBy : {L : Type 0} → L → L → ℕ → Book → Door → Door → ExitStatus → Type 0
EndsBy listener listener_now left_now tables old new status =
    ServesAll left_now tables old new status ⊎ (BreaksOff left_now old new status ⊎ IsUnserved listener listener_now old new status)

-- A desk was opened on the keeper's book, and its workers served the links, each by its own pass. One worker alone served them
-- in their turn. A stop leaves the tables, or these and rows that a session of one of the workers tried.
pub record DeskServed {L : Type 0}
    (shows : ℕ → Type 0) (workers : ℕ) (listener listener_now : L) (left : L → ℕ) (links : L → Option Links) (holds holds_now : Book → Type 0)
    (may_leave : Option Book → Type 0) (old new : Door) (status : ExitStatus) : Type 0 where
  pub tables : Book
  pub leaves : LeavesDesk holds holds_now tables
  pub stopped : LeavesTried workers may_leave tables
  pub end : EndsBy listener listener_now (left listener_now) tables old new status
  pub together : IsUnserved listener listener_now old new status ⊎ ServesTogether shows workers (links listener) (links listener_now) may_leave tables
  pub in_turn : workers ≡ 1 → IsUnserved listener listener_now old new status
      ⊎ ServesInTurn shows (left listener) (left listener_now) (links listener) (links listener_now) may_leave tables

-- or the book wasn't opened, and the listener is as it was
abbrev pub ComesOfLinks : {L : Type 0} → (ℕ → Type 0) → ℕ → L → L → (L → ℕ) → (L → Option Links) → (Book → Type 0) → (Book → Type 0) → (BadRow → Type 0) → (Option Book → Type 0) → Door → Door → ExitStatus → Type 0
ComesOfLinks shows workers listener listener_now left links holds holds_now bad_now may_leave old new status =
    DeskServed shows workers listener listener_now left links holds holds_now may_leave old new status
    ⊎ ((listener_now ≡ listener) × Fails holds holds_now bad_now old new status)

-- ---- what a status says by itself

-- no link is left, and as many as were left have been given back
abbrev pub GivesAllBack : Links → Option Links → Type 0
GivesAllBack links links_now =
    (told_now : Links) × (links_now ≡ Some told_now) × (told_now.left ≡ []) × (length told_now.given_back ≡ length links.given_back + length links.left)

-- the line of a book was written, and the keeper tells no other book
abbrev pub IsWritten : (Book → Type 0) → Option (List ℕ) → Option (List ℕ) → Type 0
IsWritten holds held held_now =
    (book : Book) × Appends held held_now (book_line book).text × ((told : Book) → holds told → told ≡ book)

-- The line of the book's first fault was written, or of the bad row.
abbrev pub NamesFault : (Book → Type 0) → (BadRow → Type 0) → Option (List ℕ) → Option (List ℕ) → Type 0
NamesFault holds bad held held_now = (found : Fault) × IsFirstFault largest holds bad found × Appends held held_now (bad_book found).text
