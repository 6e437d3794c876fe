-- What a file tells of its book, and what a crash may leave of it.
use Rattle.std.specs.Coded.{Coded, code_by, coded×, coded_ℕ, coded_bool}
use Rattle.std.specs.Prelude.{◌≡◌, ◌≢◌, ◌⊎◌, ◌↔◌, ◌≤◌, ℕ, ⊤, length, All, IfSome, Bool, false, refl, List, map, Option, None, Some, IsTrue}
use Rattle.sqlite.specs.{Tree.Trees, Effect.Database, Effect.IsDatabase, State.State, State.HasCleanDisk, State.IsLive, Held.Held, Held.held_code}
use Rattle.sqlite_schema.specs.declared.schema.Schema.{Schema}
use Rattle.sqlite.specs.declared.error.Error.{Error}
use Rattle.sqlite_disk.specs.Disk.{MoreFaults}
use Rattle.book_rows.specs.{declared.rows.Batch.Batch, Book.Book, Book.empty_book, Book.appended, Book.is_request_of}
use Rattle.keeper_core.specs.{Keeping.BadRow, Keeping.Keeps, declared.keeper.Loaded.Loaded, declared.keeper.Committed.Committed}
use Rattle.sqlite.specs.Order.{Row}
use Rattle.store_sql.specs.Tables.{cells}
use Rattle.store_sql.specs.Columns.{acts, records, lines}
use Rattle.store_sql.specs.Schema.{no_schema, HasTables}
use Rattle.store_sql.specs.Trees.{StandsFor}
use Rattle.store_sql.specs.Takes.{IsExcused, HasNumbers, longest_body}
use Rattle.store_decode.specs.Read.{first_bad}

-- the three tables hold the rows of the book, and each row fits its table
pub record HoldsRows (db : Database) (book : Book) : Type 0 where
  pub schema : HasTables db.schema
  pub stands : StandsFor db.trees (map (cells acts) book.acts) (map (cells records) book.records) (map (cells lines) book.lines)
  pub fits : first_bad (map (cells acts) book.acts) (map (cells records) book.records) (map (cells lines) book.lines) ≡ None

-- an empty file stands for an empty book
abbrev pub IsBookIn : Database → Book → Type 0
IsBookIn db book = HoldsRows db book ⊎ ((db.schema ≡ no_schema) × (book ≡ empty_book))

-- the three tables hold rows, of which this is the first that doesn't fit its table, and each cell of it has its column's type
pub record IsBadIn (db : Database) (row : BadRow) : Type 0 where
  pub schema : HasTables db.schema
  pub act_rows : List Row
  pub record_rows : List Row
  pub line_rows : List Row
  pub stands : StandsFor db.trees act_rows record_rows line_rows
  pub is : first_bad act_rows record_rows line_rows ≡ Some (Some row)

-- the disk has returned what was written, and no transaction is open
pub record IsReady (s : State) : Type 0 where
  pub clean : HasCleanDisk s
  pub is_open : IsTrue s.is_open
  pub alone : s.in_transaction ≡ false

-- A keeper whose flag is up tells nothing: something stands in its file that may touch the three tables.
pub record Holds (s : State) (is_beside : Bool) (book : Book) : Type 0 where
  pub ready : IsReady s
  pub own : is_beside ≡ false
  pub it : IsBookIn s.now book

pub record HoldsBad (s : State) (is_beside : Bool) (row : BadRow) : Type 0 where
  pub ready : IsReady s
  pub own : is_beside ≡ false
  pub it : IsBadIn s.now row

abbrev pub TellsCrash : State → Bool → Type 0
TellsCrash s is_beside = HasCleanDisk s × (is_beside ≡ false)

-- the disk has returned what was written, nothing touches the three tables, and the connection is open
abbrev pub IsWell : State → Bool → Type 0
IsWell s is_beside = TellsCrash s is_beside × IsTrue s.is_open

-- an open after a crash now may find this book
pub record MayLeave (s : State) (book : Book) : Type 0 where
  pub db : Database
  pub left : s.may_leave db.trees
  pub live : IsDatabase db
  pub it : IsBookIn db book

-- these trees are a book's file: sound under a schema by which they hold the book
pub record IsFileOf (trees : Trees) (book : Book) : Type 0 where
  pub db : Database
  pub same : db.trees ≡ trees
  pub live : IsDatabase db
  pub it : IsBookIn db book

-- a crash now may leave what is no book's file
pub record MaySpoil (s : State) : Type 0 where
  pub trees : Trees
  pub left : s.may_leave trees
  pub none : (book : Book) → IsFileOf trees book → ⊥

-- a crash now may leave this book, or None: what is no book's file
abbrev pub CrashLeaves : State → Option Book → Type 0
CrashLeaves s (Some book) = MayLeave s book
CrashLeaves s None = MaySpoil s

-- what is told after a call was told before it: of the book, of a bad row and of a crash; and the keeper was well
pub record TellsNoMore (old : State) (was_beside : Bool) (new : State) (is_beside : Bool) : Type 0 where
  pub kept : Keeps (Holds old was_beside) (Holds new is_beside)
  pub kept_row : Keeps (HoldsBad old was_beside) (HoldsBad new is_beside)
  pub told : TellsCrash new is_beside → TellsCrash old was_beside
  pub crash : TellsCrash new is_beside → Keeps (CrashLeaves old) (CrashLeaves new)
  pub well : IsWell new is_beside → IsWell old was_beside

-- what was told before a call is told after it: of the book, and of a bad row
pub record TellsOn (old : State) (was_beside : Bool) (new : State) (is_beside : Bool) : Type 0 where
  pub book : Keeps (Holds new is_beside) (Holds old was_beside)
  pub row : Keeps (HoldsBad new is_beside) (HoldsBad old was_beside)

-- while the disk is clean and the connection open, what was told is told on
abbrev pub GoesOn : State → Bool → State → Bool → Type 0
GoesOn old was_beside new is_beside = HasCleanDisk new → IsTrue new.is_open → TellsOn old was_beside new is_beside

-- while the disk is clean only a fault of the store shuts the connection
abbrev pub StaysOpen : State → State → Type 0
StaysOpen old new = HasCleanDisk new → IsTrue old.is_open → IsTrue new.is_open ⊎ MoreFaults old.faults new.faults

-- While the disk is clean, a book that was told is told with the batch after Done, and the connection is open. After
-- another answer what was told is told on, while the connection is open.
abbrev pub CommitsOn : State → Bool → State → Bool → Batch → Committed → Type 0
CommitsOn old was_beside new is_beside batch Committed.Done =
    HasCleanDisk new → (book : Book) → Holds old was_beside book → Holds new is_beside (appended book batch)
CommitsOn old was_beside new is_beside batch Committed.Failed = GoesOn old was_beside new is_beside
CommitsOn old was_beside new is_beside batch Committed.NoMemory = GoesOn old was_beside new is_beside

-- A book's file takes the rows of a batch: its tables are made, and the steps of a query have no limit; no act of the
-- book has the batch's clerk and request, and no record the household and number of the one that is made; the text of
-- the act is no longer than a row may be; and the lines stand under the rowids 1, 2 and so on, of which enough are left.
pub record TakesBatch (s : State) (book : Book) (batch : Batch) : Type 0 where
  pub made : HasTables s.now.schema
  pub unlimited : s.step_limit ≡ None
  pub request : All (λ act. is_request_of batch.act.clerk batch.act.request act ≡ false) book.acts
  pub number : IfSome batch.made (λ made. All (λ r. r.household ≡ made.household → r.number ≢ made.number) book.records)
  pub body : length batch.act.body ≤ longest_body
  pub rowids : HasNumbers (s.now.trees 4) (length batch.lines)

-- while the disk is clean, a batch that follows a told book and that its file takes fails only where the store counted
-- a fault
abbrev pub FailsByFault : State → Bool → State → Batch → Committed → Type 0
FailsByFault old was_beside new batch result =
    HasCleanDisk new → result ≡ Committed.Failed → (book : Book) → Holds old was_beside book → TakesBatch old book batch → MoreFaults old.faults new.faults

-- a book or a bad row is told
abbrev pub IsTold : State → Bool → Type 0
IsTold s is_beside = ((book : Book) × Holds s is_beside book) ⊎ ((row : BadRow) × HoldsBad s is_beside row)

-- While the disk is clean and the steps of a query have no limit: where what was told couldn't be loaded, memory ran out
-- or the store counted a fault.
abbrev pub IsUnloadedByFault : State → Bool → State → Error → Type 0
IsUnloadedByFault old was_beside new e = HasCleanDisk new → IsTold old was_beside → old.step_limit ≡ None → IsExcused old new e

-- while the disk is clean and the steps of a query have no limit, the load of what was told fails only where the store
-- counted a fault
abbrev pub LoadFailsByFault : State → Bool → State → Loaded → Type 0
LoadFailsByFault old was_beside new result =
    HasCleanDisk new → result ≡ Loaded.Failed → IsTold old was_beside → old.step_limit ≡ None → MoreFaults old.faults new.faults

-- while the disk is clean and the flag down, whatever a crash now may leave is some book's file
abbrev pub LeavesBooks : State → Bool → Type 0
LeavesBooks s is_beside = TellsCrash s is_beside → (trees : Trees) → s.may_leave trees → (book : Book) × IsFileOf trees book

-- After Done a crash leaves a book's file, where a book is told. After another answer it does so where a book was told
-- and a crash before left one.
abbrev pub CommitsBooks : State → Bool → State → Bool → Committed → Type 0
CommitsBooks old was_beside new is_beside Committed.Done = (book : Book) → Holds new is_beside book → LeavesBooks new is_beside
CommitsBooks old was_beside new is_beside Committed.Failed =
    (book : Book) → Holds old was_beside book → LeavesBooks old was_beside → LeavesBooks new is_beside
CommitsBooks old was_beside new is_beside Committed.NoMemory =
    (book : Book) → Holds old was_beside book → LeavesBooks old was_beside → LeavesBooks new is_beside

-- nothing stands in the file, or the three tables as the program makes them and nothing that touches them
abbrev pub IsOwn : Schema → Type 0
IsOwn schema = (schema ≡ no_schema) ⊎ HasTables schema

-- the flag is down after a load just where it was down before, and nothing that touches the program's own tables stood in
-- the file
abbrev pub Notes : Schema → Bool → Bool → Type 0
Notes schema was_beside is_beside = (is_beside ≡ false) ↔ ((was_beside ≡ false) × IsOwn schema)

-- between two statements: what is committed is sound, and a crash may leave it
pub record IsSettled (s : State) : Type 0 where
  pub live : IsLive s
  pub settled : s.in_transaction ≡ false → IsTrue s.is_open → s.now ≡ s.committed
  pub stays : IsTrue s.is_open → s.may_leave s.committed.trees

-- rows or a bad row, or want of memory
abbrev pub IsAnswer : Loaded → Type 0
IsAnswer Loaded.Failed = ⊥
IsAnswer _ = ⊤

-- a keeper: its connection, whether something may touch its tables, and the faults so far
pub record Kept (S : Type 0) : Type 0 where
  pub file : Held S
  pub is_beside : Bool
  pub faults : ℕ

-- by which a proof tells two of them apart
abbrev pub kept_code : {S : Type 0} → Coded S → Coded (Kept S)
kept_code {S} store =
    code_by (Held S × (Bool × ℕ)) (coded× (held_code store) (coded× coded_bool coded_ℕ)) (λ k. (k.file, (k.is_beside, k.faults)))
    (λ p. record { file = p.0; is_beside = p.1.0; faults = p.1.1 }) (λ _. refl)
