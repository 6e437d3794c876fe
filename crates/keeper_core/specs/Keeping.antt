-- What a keeper tells of its book, what one load and one commit do to it, and why they answer as they do.
--
-- A keeper may stop telling at any call, so most of these look back from the end: what is told after a call was told
-- before it. Those of a keeper that nothing has stopped for good look forward.
use Rattle.std.specs.Prelude.{◌≡◌, ◌⊎◌, ℕ, ⊤, Option, Some}
use Rattle.office_io.specs.Outside.{Faulted}
use Rattle.book_rows.specs.{declared.rows.Table.Table, declared.rows.Batch.Batch, Book.Book, Book.book_of, Book.appended}
use Rattle.keeper_core.specs.declared.keeper.{Loaded.Loaded, Committed.Committed}

-- a stored row with a number out of its range: its table and its act, or 0 where its act is out of range
pub record BadRow : Type 0 where
  pub table : Table
  pub act : ℕ

-- the book that is kept is told, and no other
abbrev pub Only : Book → Book → Type 0
Only kept book = book ≡ kept

-- whatever is told now, a book or a bad row, was told before
abbrev pub Keeps : {A : Type 0} → (A → Type 0) → (A → Type 0) → Type 0
Keeps {A} old new = (it : A) → new it → old it

-- a load gives the book that is told, or the bad row that is told, and never rows where a bad row is told, nor a bad
-- row where a book is told
abbrev pub Gives : (Book → Type 0) → (BadRow → Type 0) → Loaded → Type 0
Gives holds bad (Loaded.Rows tables) =
    ((book : Book) → holds book → book_of tables ≡ book) × ((row : BadRow) → bad row → ⊥)
Gives holds bad (Loaded.BadRow table act) =
    ((book : Book) → holds book → ⊥) × ((row : BadRow) → bad row → row ≡ record { table = table; act = act })
Gives holds bad Loaded.Failed = ⊤
Gives holds bad Loaded.NoMemory = ⊤

-- a load answers Failed only where it counted a fault
abbrev pub LoadCause : ℕ → ℕ → Loaded → Type 0
LoadCause before now Loaded.Failed = Faulted before now
LoadCause before now _ = now ≡ before

-- after Done the batch is appended to the book that was told, and every other answer leaves the book
abbrev pub Commits : (Book → Type 0) → (Book → Type 0) → Batch → Committed → Type 0
Commits old new batch Committed.Done =
    (book : Book) → new book → (was : Book) × (old was × (book ≡ appended was batch))
Commits old new batch Committed.Failed = Keeps old new
Commits old new batch Committed.NoMemory = Keeps old new

-- while nothing stops the keeper for good, a book that was told is told with the batch after Done, and as it was after
-- every other answer
abbrev pub CommitsOn : (Book → Type 0) → (Book → Type 0) → Batch → Committed → Type 0
CommitsOn old new batch Committed.Done = (book : Book) → old book → new (appended book batch)
CommitsOn old new batch Committed.Failed = Keeps new old
CommitsOn old new batch Committed.NoMemory = Keeps new old

-- a commit answers Failed only where it counted a fault
abbrev pub CommitCause : ℕ → ℕ → Committed → Type 0
CommitCause before now Committed.Failed = Faulted before now
CommitCause before now _ = now ≡ before

-- ---- a crash, which leaves a book, or None: what is no book

-- it leaves the book that is told, and nothing else
abbrev pub LeavesTold : (Book → Type 0) → (Option Book → Type 0) → Type 0
LeavesTold holds leaves = (book : Book) → holds book → (after : Option Book) → leaves after → after ≡ Some book

-- it leaves what it could leave before, or the book that was told with the batch
abbrev pub LeavesOrCommits : (Book → Type 0) → (Option Book → Type 0) → (Option Book → Type 0) → Batch → Type 0
LeavesOrCommits held left leaves batch =
    (book : Book) → held book → (after : Option Book) → leaves after → left after ⊎ (after ≡ Some (appended book batch))

-- What a crash may leave after a commit. After Done that is the book that is told and nothing else. After another answer
-- it is what could be left before, or the book that was told with the batch.
abbrev pub CommitCrash : (Book → Type 0) → (Option Book → Type 0) → (Book → Type 0) → (Option Book → Type 0) → Batch → Committed → Type 0
CommitCrash held left holds leaves batch Committed.Done = LeavesTold holds leaves
CommitCrash held left holds leaves batch Committed.Failed = LeavesOrCommits held left leaves batch
CommitCrash held left holds leaves batch Committed.NoMemory = LeavesOrCommits held left leaves batch
