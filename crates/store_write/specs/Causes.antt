-- Why a statement that writes a book's file fails, and which rows it takes.
use Rattle.std.specs.Prelude.{◌≢◌, ◌⊎◌, ◌<◌, ◌≤◌, ℕ, List, ◌++◌, map, take, length, slice_index_or, Option, IfSome, Ok, Err, IsPermutation}
use Rattle.sqlite.specs.Order.{Row}
use Rattle.sqlite.specs.Tree.{Trees}
use Rattle.sqlite.specs.State.{State, Executes, ExecutesInside}
use Rattle.sqlite.specs.declared.error.Error.{Error}
use Rattle.record_history.specs.declared.records.Record.{Record}
use Rattle.voucher_core.specs.declared.line.Line.{Line}
use Rattle.book_rows.specs.declared.rows.{ActRow.ActRow, Batch.Batch}
use Rattle.store_sql.specs.Tables.{cells}
use Rattle.store_sql.specs.Columns.{acts, records, lines}
use Rattle.store_sql.specs.Trees.{rows_in}
use Rattle.store_sql.specs.Takes.{IsNew, HasNumbers, longest_body}

-- the text was refused, or told of more or fewer rows than one
abbrev pub IsRejected : List ℕ → Row → State → State → Error → Type 0
IsRejected sql params old new e = ExecutesInside 0 sql params old new (Err e) ⊎ ((count : ℕ) × (count ≢ 1) × Executes sql params old new (Ok count))

-- the act is new to the table, and its text is no longer than a row may be
pub record TakesAct (trees : Trees) (act : ActRow) : Type 0 where
  pub there : List ActRow
  pub there_are : IsPermutation (map (cells acts) there) (rows_in acts trees)
  pub new : IsNew acts there act
  pub short : length act.body ≤ longest_body

-- the record that an act made, if it made one, is new to the table
pub record TakesMade (trees : Trees) (made : Option Record) : Type 0 where
  pub there : List Record
  pub there_are : IsPermutation (map (cells records) there) (rows_in records trees)
  pub new : IfSome made (IsNew records there)

-- each line is new to the table and to the lines before it, and the table has rowids left for them
pub record TakesLines (trees : Trees) (made : List Line) : Type 0 where
  pub there : List Line
  pub there_are : IsPermutation (map (cells lines) there) (rows_in lines trees)
  pub new : (at : ℕ) (d : Line) → at < length made → IsNew lines (there ++ take at made) (slice_index_or made at d)
  pub numbers : HasNumbers (trees 4) (length made)

-- the three tables take the rows of a batch
pub record Takes (trees : Trees) (batch : Batch) : Type 0 where
  pub act : TakesAct trees batch.act
  pub made : TakesMade trees batch.made
  pub lines : TakesLines trees batch.lines
