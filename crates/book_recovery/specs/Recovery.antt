-- What the two files of a book hold, what a stop may leave of them, and what an open then finds.
use Rattle.std.specs.Prelude.{◌≡◌, ◌⊎◌, ℕ, ⊤, false}
use Rattle.sqlite.specs.{Tree.Trees, Recovery.Image, State.State, State.HasCleanDisk, WalReads.AreClean, declared.error.Error.Error}
use Rattle.sqlite.specs.declared.error.{Error.TheVariants.SqliteFailure, ErrorCode.TheVariants.OutOfMemory, ErrorCode.TheVariants.DiskFull}
use Rattle.sqlite.specs.Files.{HoldsDatabase, IsFullLeft, LeavesFiles, file_state, faults_left, faults_of, image_of}
use Rattle.sqlite.specs.declared.file.Leftover.{Leftover}
use Rattle.sqlite_disk.specs.{declared.Disk.Ghosts, declared.Files.Files, Disk.MoreFaults}
use Rattle.sqlite_store.specs.declared.store.FileStore.{FileStore}
use Rattle.book_rows.specs.{declared.rows.Batch.Batch, Book.Book, Book.book_of, Book.appended}
use Rattle.keeper_core.specs.declared.keeper.{Loaded.Loaded, Committed.Committed}
use Rattle.keeper_sqlite.specs.Told.{Kept, Holds, IsWell as IsWellOn, MayLeave, IsFileOf, LeavesBooks}

-- the file and its log hold a database that is this book's file
pub record HoldsBook (image : Image) (book : Book) : Type 0 where
  pub trees : Trees
  pub held : ∥ HoldsDatabase image trees ∥₁
  pub file : IsFileOf trees book

abbrev pub HoldsABook : Image → Type 0
HoldsABook image = (book : Book) × HoldsBook image book

-- the file and its log hold trees that a stop may leave, whatever they are
pub record HoldsTrees (s : State) (image : Image) : Type 0 where
  pub trees : Trees
  pub left : s.may_leave trees
  pub held : HoldsDatabase image trees

-- the file and its log hold a book that a stop may leave
pub record HoldsLeft (s : State) (image : Image) : Type 0 where
  pub book : Book
  pub left : MayLeave s book
  pub held : HoldsBook image book

-- a stop leaves no other book than this, or this with the rows of one further act
abbrev pub LeavesAtMost : State → Book → Batch → Type 0
LeavesAtMost s book further = (after : Book) → MayLeave s after → (after ≡ book) ⊎ (after ≡ appended book further)

-- the load gave this book, or nothing
abbrev pub GivesBook : Book → Loaded → Type 0
GivesBook book (Loaded.Rows tables) = book_of tables ≡ book
GivesBook book (Loaded.BadRow table act) = ⊥
GivesBook book Loaded.Failed = ⊤
GivesBook book Loaded.NoMemory = ⊤

-- where a stop leaves no other book than one, or that with the rows of one further act, the load gave one of the two, or nothing
abbrev pub GivesAcknowledged : State → Loaded → Type 0
GivesAcknowledged s loaded = (book : Book) (further : Batch) → LeavesAtMost s book further → GivesBook book loaded ⊎ GivesBook (appended book further) loaded

abbrev pub GivesRows : Loaded → Type 0
GivesRows (Loaded.Rows tables) = ⊤
GivesRows _ = ⊥

-- after Done a load gave the book with the rows of that act, and after another answer the book, or that with the rows
abbrev pub GivesAfter : Committed → Book → Batch → Loaded → Type 0
GivesAfter Committed.Done book batch loaded = GivesBook (appended book batch) loaded
GivesAfter Committed.Failed book batch loaded = GivesBook book loaded ⊎ GivesBook (appended book batch) loaded
GivesAfter Committed.NoMemory book batch loaded = GivesBook book loaded ⊎ GivesBook (appended book batch) loaded

-- after Done files hold the book with the rows of that act, and after another answer the book, or that with the rows
abbrev pub HoldsAfter : Committed → Book → Batch → Image → Type 0
HoldsAfter Committed.Done book batch image = HoldsBook image (appended book batch)
HoldsAfter Committed.Failed book batch image = HoldsBook image book ⊎ HoldsBook image (appended book batch)
HoldsAfter Committed.NoMemory book batch image = HoldsBook image book ⊎ HoldsBook image (appended book batch)

module _ {D : Type 0} {g : Ghosts D} where
  -- nothing from outside has stopped it for good
  abbrev pub IsWell : Kept (FileStore D g) → Type 0
  IsWell keeper = IsWellOn (file_state keeper.file) keeper.is_beside

  -- the keeper tells this book, and a load gave it or nothing
  pub record FindsBook (keeper : Kept (FileStore D g)) (loaded : Loaded) (book : Book) : Type 0 where
    pub told : Holds (file_state keeper.file) keeper.is_beside book
    pub given : GivesBook book loaded

  -- its flag is down, and what a stop leaves while the disk is clean is a book's file
  abbrev pub LeavesABook : Kept (FileStore D g) → Type 0
  LeavesABook keeper = (keeper.is_beside ≡ false) × LeavesBooks (file_state keeper.file) keeper.is_beside

  -- the keeper tells this book, and a stop leaves its file and no other book
  pub record IsKept (keeper : Kept (FileStore D g)) (book : Book) : Type 0 where
    pub told : Holds (file_state keeper.file) keeper.is_beside book
    pub books : LeavesBooks (file_state keeper.file) keeper.is_beside
    pub alone : (after : Book) → MayLeave (file_state keeper.file) after → after ≡ book

  -- A stop of the first keeper may leave a book that the second one tells, and that a load of it gave.
  pub record Recovers (was now : Kept (FileStore D g)) (loaded : Loaded) : Type 0 where
    pub book : Book
    pub left : MayLeave (file_state was.file) book
    pub found : FindsBook now loaded book

  -- want of memory, a fault that was counted, or a file that is too long
  abbrev pub IsUnopened : ℕ → Leftover D g → Error → Type 0
  IsUnopened faults left error =
      (error ≡ SqliteFailure OutOfMemory) ⊎ (MoreFaults faults (faults_left left) ⊎ ((error ≡ SqliteFailure DiskFull) × IsFullLeft left))

  -- it tells a book, or a stop leaves one
  abbrev pub HasABook : Kept (FileStore D g) → Type 0
  HasABook keeper = ((book : Book) × Holds (file_state keeper.file) keeper.is_beside book) ⊎ LeavesABook keeper

  -- These files are what a stop left of a keeper. While their disks are clean, so was the keeper's. They hold the book
  -- that it told, or where it told none, one that a stop might leave.
  pub record IsLeftBy (keeper : Kept (FileStore D g)) (files : Files D) : Type 0 where
    pub honest : AreClean g files.log files.db → HasCleanDisk (file_state keeper.file)
    pub told : AreClean g files.log files.db → (book : Book) → Holds (file_state keeper.file) keeper.is_beside book → HoldsBook (image_of g files) book
    pub left : AreClean g files.log files.db → LeavesABook keeper → ∥ HoldsLeft (file_state keeper.file) (image_of g files) ∥₁

  -- An open refused these files: where they hold a book, for want of memory, a fault that it counted, or their length. It
  -- left of them what the SQL library says.
  pub record IsRefused (files : Files D) (left : Leftover D g) (error : Error) : Type 0 where
    pub cause : ∥ HoldsABook (image_of g files) ∥₁ → IsUnopened (faults_of g files) left error
    pub unharmed : LeavesFiles files left

  -- the files were refused that a stop of this keeper left
  pub record IsUnopenedAgain (keeper : Kept (FileStore D g)) (left : Leftover D g) (error : Error) : Type 0 where
    pub files : Files D
    pub stopped : IsLeftBy keeper files
    pub refused : IsRefused files left error

  -- the files were refused that a stop left after a commit, and that hold the book after it while their disks are clean
  pub record IsUnopenedAfter (answer : Committed) (book : Book) (batch : Batch) (left : Leftover D g) (error : Error) : Type 0 where
    pub files : Files D
    pub held : AreClean g files.log files.db → ∥ HoldsAfter answer book batch (image_of g files) ∥₁
    pub refused : IsRefused files left error
