-- What a column, a table and an index look like that the statements on a book's file make.
use Rattle.std.specs.Prelude.{ℕ, ◌+◌, Bool, true, false, List, [], ◌∷◌, map, codes}
use Rattle.std.specs.Borrow.{Bor}
use Rattle.sqlite.specs.declared.types.Value.TheVariants.{Null}
use Rattle.sqlite_value.specs.declared.keys.Collation.TheVariants.{Binary}
use Rattle.sqlite_value.specs.Keys.{plain}
use Rattle.sqlite_schema.specs.declared.schema.{Column.Column, Table.Table, Index.Index, Kind.Kind}
use Rattle.keeper_sqlite.specs.declared.own.Shape.{Shape}

-- a column of a STRICT table, of that name and type and perhaps never NULL, with neither a default nor a collation of its own
abbrev pub column_of : Bor (List ℕ) × Kind × Bool → Column
column_of c = record { name = c.0.now; kind = c.1; is_strict = true; not_null = c.2; default = Null; collation = Binary }

-- a table of these columns and keys, and nothing else
abbrev pub table_of : Shape → Table
table_of s = record {
  name = s.name.now;
  tree = s.tree;
  columns = map column_of s.columns.now;
  key = s.key;
  primary = s.primary.now;
  uniques = s.unique.now ∷ [];
  orders = plain ∷ [];
  checks = [];
  references = [];
  computed = [];
  stamps = record { places = []; terms = []; formats = [] };
  is_counted = false;
}

-- an index that guards a key of the table, in the tree after the table's
abbrev pub key_index : List ℕ → ℕ → List ℕ → Index
key_index name table key = record { name = name; tree = table + 1; table = table; columns = key; order = plain; is_unique = true }

abbrev pub index_of : Shape → Index
index_of s = key_index s.index.now s.tree s.unique.now

-- the indexes of the three tables
abbrev pub key_indexes : List Index
key_indexes =
    key_index (codes "sqlite_autoindex_acts_1") 0 (3 ∷ 4 ∷ [])
    ∷ key_index (codes "sqlite_autoindex_records_1") 2 (2 ∷ 3 ∷ [])
    ∷ key_index (codes "sqlite_autoindex_lines_1") 4 (1 ∷ 2 ∷ []) ∷ []
