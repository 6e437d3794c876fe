-- What the queries on a book's file show, and why a table isn't read.
use Rattle.std.specs.Prelude.{◌≡◌, ℕ, List, [], Ok, None, false}
use Rattle.sqlite.specs.Tree.{Trees}
use Rattle.sqlite.specs.{Order.Row, Effect.Database, Listing.understood, State.State, State.Shown, State.FailsToQuery, State.IsUnchanged, Held.Held, Held.state}
use Rattle.sqlite.specs.declared.error.Error.{Error}
use Rattle.sqlite_schema.specs.declared.schema.Schema.{Schema}
use Rattle.sqlite_resolve.specs.declared.compiled.Compiled.{Compiled}
use Rattle.sqlite_trees.specs.declared.store.Store.{Ghosts}
use Rattle.store_sql.specs.Tables.{Table, select_text}
use Rattle.store_sql.specs.Columns.{acts, records, lines}
use Rattle.store_sql.specs.Schema.{no_schema, HasTables}
use Rattle.store_sql.specs.Trees.{Lists}
use Rattle.store_sql.specs.Takes.{IsExcused, IsServing}
use Rattle.store_read.specs.declared.asking.{AskedRows.AskedRows, AskFault.AskFault, AskFault.TheVariants.Acts, AskFault.TheVariants.Others}

-- Whatever rows the table holds, listed by their keys: these are they.
abbrev pub AreRows : {A : Type 0} → Table A → Trees → List Row → Type 0
AreRows t trees rows = (listed : List Row) → Lists t trees listed → rows ≡ listed

-- what a text shows is no write's, under any schema
abbrev pub OnlyReads : List ℕ → Type 0
OnlyReads sql = (schema : Schema) (c : Compiled) → understood schema sql ≡ Ok c → c.returning ≡ None

-- of a book's file the text shows the rows of the table
abbrev pub ShowsTable : {S A : Type 0} → Ghosts S → Table A → Type 0
ShowsTable {S} g t =
    (old new : Held S) (rows listed : List Row) → HasTables (state g old).now.schema → Shown (select_text t) [] (state g old) (state g new) rows → Lists t (state g old).now.trees listed → rows ≡ listed

-- the text shows these rows, and nothing changed
pub record AreShown {S : Type 0} (g : Ghosts S) (sql : List ℕ) (rows : List Row) (old new : Held S) : Type 0 where
  pub last : Held S
  pub all : Shown sql [] (state g last) (state g new) rows
  pub before : IsUnchanged (state g old) (state g last)
  pub after : IsUnchanged (state g last) (state g new)

-- of a book's file the rows are shown, and nothing changes
abbrev pub Asks : {A : Type 0} → Table A → List Row → State → State → Type 0
Asks t rows old new = HasTables old.now.schema → AreRows t old.now.trees rows × (new.now ≡ old.now)

-- the file isn't empty, and where it is a book's these are its rows
pub record AreAsked (rows : AskedRows) (db : Database) : Type 0 where
  pub known : db.schema ≡ no_schema → ⊥
  pub acts : HasTables db.schema → AreRows acts db.trees rows.acts
  pub records : HasTables db.schema → AreRows records db.trees rows.records
  pub lines : HasTables db.schema → AreRows lines db.trees rows.lines

-- ---- why the rows weren't given

-- of a book's file that is open the text is refused only where memory ran out or the store counted a fault
abbrev pub IsRefusedByFault : {S : Type 0} → Ghosts S → List ℕ → Type 0
IsRefusedByFault {S} g sql = (old new : Held S) (e : Error) → IsServing (state g old) → FailsToQuery sql [] (state g old) (state g new) e → IsExcused (state g old) (state g new) e

abbrev pub error_of : AskFault → Error
error_of (Acts e) = e
error_of (Others e) = e

-- a table of a book's file that is open isn't read only where memory ran out or the store counted a fault
abbrev pub IsUnreadByFault : State → State → AskFault → Type 0
IsUnreadByFault old new fault = IsServing old → IsExcused old new (error_of fault)

-- so it is of the three tables, outside a transaction
abbrev pub AreUnreadByFault : State → State → AskFault → Type 0
AreUnreadByFault old new fault = IsServing old → old.in_transaction ≡ false → IsExcused old new (error_of fault)
