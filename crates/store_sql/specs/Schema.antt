-- The schema of a book's file: its three tables, which are STRICT, and what else may stand beside them.
use Rattle.std.specs.Prelude.{◌≡◌, ℕ, nat_lt, List, [], ◌∷◌, ◌++◌, take, drop, length, Bool, true, ◌&&◌, ◌==◌}
use Rattle.std.specs.List.{list_all}
use Rattle.sqlite.specs.Schema.{Schema}
use Rattle.sqlite_schema.specs.declared.schema.{Table.Table, Index.Index, View.View}
use Rattle.sqlite.specs.Change.{created}
use Rattle.store_sql.specs.Tables.{schema_table}
use Rattle.store_sql.specs.Columns.{acts, records, lines}

abbrev pub no_schema : Schema
no_schema = record { tables = []; indexes = []; views = [] }

-- with the first table alone, and with the first two
abbrev pub acts_schema : Schema
acts_schema = created no_schema (schema_table acts)

abbrev pub records_schema : Schema
records_schema = created acts_schema (schema_table records)

-- with the three tables and the indexes that guard their keys, and nothing else
abbrev pub book_schema : Schema
book_schema = created records_schema (schema_table lines)

-- what stands behind the three tables and their indexes, and the views and triggers
pub record Others : Type 0 where
  pub tables : List Table
  pub indexes : List Index
  pub views : List View

abbrev pub others_of : Schema → Others
others_of schema = record { tables = drop 3 schema.tables; indexes = drop 3 schema.indexes; views = schema.views }

abbrev pub with_others : Others → Schema
with_others others = record { tables = book_schema.tables ++ others.tables; indexes = book_schema.indexes ++ others.indexes; views = others.views }

-- each in a later tree than this one and than those before it, and referring to no table
abbrev pub are_later : ℕ → List Table → Bool
are_later tree [] = true
are_later tree (t ∷ ts) = nat_lt tree t.tree && ((length t.references == 0) && are_later t.tree ts)

-- none is on a table that stands in this tree or before it
abbrev pub are_on_later : ℕ → List Index → Bool
are_on_later tree indexes = list_all (λ i. nat_lt tree i.table) indexes

-- The three tables and their indexes come first, as they are made, and nothing else in the file touches them: the other
-- tables stand in later trees, refer to none, and have the other indexes. (A trigger on a table takes it out of the
-- schema's tables.)
pub record HasTables (schema : Schema) : Type 0 where
  pub tables : take 3 schema.tables ≡ book_schema.tables
  pub later : are_later 5 (drop 3 schema.tables) ≡ true
  pub indexes : take 3 schema.indexes ≡ book_schema.indexes
  pub on_later : are_on_later 5 (drop 3 schema.indexes) ≡ true
