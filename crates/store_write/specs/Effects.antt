-- What the statements on a book's file do to it, where the disk has returned what was written.
use Rattle.std.specs.Prelude.{◌≡◌, ℕ, List, [], ◌∷◌, map, option_to_list, Option, Ok, IsTrue, true, false}
use Rattle.std.specs.List.{AllByRecursion}
use Rattle.sqlite.specs.Order.{Row}
use Rattle.sqlite.specs.Tree.{Trees}
use Rattle.sqlite.specs.{Effect.Database, Effect.IsDatabase, State.State, State.Executes}
use Rattle.record_history.specs.declared.records.Record.{Record}
use Rattle.voucher_core.specs.declared.line.Line.{Line}
use Rattle.book_rows.specs.declared.rows.{ActRow.ActRow, Batch.Batch}
use Rattle.store_sql.specs.Tables.{cells, fits}
use Rattle.store_sql.specs.Columns.{acts, records, lines}
use Rattle.store_sql.specs.Schema.{no_schema, book_schema, HasTables}
use Rattle.store_sql.specs.Trees.{Adds, HoldsNone}

-- the rows of an act, as the tables hold them
abbrev pub act_part : ActRow → List Row
act_part act = cells acts act ∷ []

abbrev pub made_part : Option Record → List Row
made_part made = map (cells records) (option_to_list made)

abbrev pub line_part : List Line → List Row
line_part = map (cells lines)

-- each of them fits its table
pub record AllFit (batch : Batch) : Type 0 where
  pub act : AllByRecursion (λ row. fits acts row ≡ true) (act_part batch.act)
  pub made : AllByRecursion (λ row. fits records row ≡ true) (made_part batch.made)
  pub lines : AllByRecursion (λ row. fits lines row ≡ true) (line_part batch.lines)

-- the text was run, and told of one row
pub record Inserts (sql : List ℕ) (params : Row) (old new : State) : Type 0 where
  pub ran : Executes sql params old new (Ok 1)
  pub inside : IsTrue new.in_transaction
  pub schema : new.now.schema ≡ old.now.schema
  pub live : IsDatabase new.now

-- in a transaction these rows came to the tables, and the schema stays, whatever it is
pub record Fills (acts records lines : List Row) (old new : State) : Type 0 where
  pub inside : IsTrue old.in_transaction → IsTrue new.in_transaction
  pub schema : new.now.schema ≡ old.now.schema
  pub live : IsDatabase old.now → IsDatabase new.now
  pub rows : HasTables old.now.schema → Adds acts records lines old.now.trees new.now.trees

-- a transaction was begun and committed, and the connection is as open as before
pub record Settles (old new : State) : Type 0 where
  pub was_open : IsTrue old.is_open
  pub is_open : IsTrue new.is_open
  pub was_alone : old.in_transaction ≡ false
  pub alone : new.in_transaction ≡ false
  pub settled : new.committed ≡ new.now

-- the rows of the act are committed; the file was not empty, and its schema stays
pub record Lands (old new : State) (batch : Batch) : Type 0 where
  pub settles : Settles old new
  pub known : old.now.schema ≡ no_schema → ⊥
  pub schema : new.now.schema ≡ old.now.schema
  pub live : IsDatabase new.now
  pub fit : AllFit batch
  pub rows : HasTables old.now.schema → Adds (act_part batch.act) (made_part batch.made) (line_part batch.lines) old.now.trees new.now.trees

-- where the connection is still open, all is as it was, and a transaction is open only if one was
abbrev pub Undoes : State → State → Type 0
Undoes old new = IsTrue new.is_open → IsTrue old.is_open × (new.now ≡ old.now) × (new.in_transaction ≡ old.in_transaction)

-- what the commit of an act's rows may leave in the file
pub record BatchTrees (old : State) (batch : Batch) (trees : Trees) : Type 0 where
  pub known : old.now.schema ≡ no_schema → ⊥
  pub live : IsDatabase (record { schema = old.now.schema; trees = trees })
  pub fit : AllFit batch
  pub rows : HasTables old.now.schema → Adds (act_part batch.act) (made_part batch.made) (line_part batch.lines) old.now.trees trees

-- the text was run
abbrev pub Ran : List ℕ → State → State → Type 0
Ran sql old new = (count : ℕ) × Executes sql [] old new (Ok count)

-- the three tables are there, and hold nothing
pub record IsMade (db : Database) : Type 0 where
  pub schema : db.schema ≡ book_schema
  pub live : IsDatabase db
  pub none : HoldsNone db.trees

-- the tables are committed, where nothing else stood in the file
pub record Makes (old new : State) : Type 0 where
  pub settles : Settles old new
  pub made : old.now.schema ≡ no_schema → IsMade new.now

-- what the commit of the tables may leave in the file
pub record MadeTrees (old : State) (trees : Trees) : Type 0 where
  pub was_open : IsTrue old.is_open
  pub was_alone : old.in_transaction ≡ false
  pub made : old.now.schema ≡ no_schema → IsMade (record { schema = book_schema; trees = trees })
