-- Which rows have in each cell what the SQL type of its column allows.
use Rattle.std.specs.Prelude.{ℕ, ◌+◌, List, [], ◌∷◌, length, Bool, true, false, not, ◌&&◌, ◌||◌, ◌==◌}
use Rattle.std.specs.Borrow.{Bor}
use Rattle.sqlite.specs.declared.types.Value.{Value}
use Rattle.sqlite.specs.declared.types.Value.TheVariants.{Null}
use Rattle.sqlite.specs.Order.{Row, column}
use Rattle.sqlite_sql.specs.Ops.{is_null}
use Rattle.sqlite_trees.specs.View.{is_int}
use Rattle.sqlite_schema.specs.declared.schema.Column.{Column as SqlColumn}
use Rattle.sqlite_schema.specs.declared.schema.Kind.{Kind as SqlKind}
use Rattle.sqlite_schema.specs.declared.schema.Kind.TheVariants.{Integer, Real, Text, Blob, Any}
use Rattle.sqlite.specs.Collation.TheVariants.{Binary}
use Rattle.store_sql.specs.Cells.{is_words}
use Rattle.store_sql.specs.Tables.{Table, schema_table}

abbrev is_of_kind : SqlKind → Value → Bool
is_of_kind Integer v = is_int v
is_of_kind Text v = is_words v
is_of_kind Real v = false
is_of_kind Blob v = false
is_of_kind Any v = false

-- of the column's type, or NULL where it may be
abbrev pub is_of : SqlColumn → Value → Bool
is_of column v = is_of_kind column.kind v || (not column.not_null && is_null v)

-- from this place on a cell for each column, which is of its type, and no more
abbrev pub are_of_from : ℕ → List SqlColumn → Row → Bool
are_of_from at [] row = length row == at
are_of_from at (c ∷ cs) row = is_of c (column row at) && are_of_from (at + 1) cs row

abbrev pub is_typed : {A : Type 0} → Table A → Row → Bool
is_typed t row = are_of_from 0 (schema_table t).columns row

-- a column of the program's list of columns: its name, its type, and whether it is never NULL
abbrev pub listed_column : Bor (List ℕ) × SqlKind × Bool → SqlColumn
listed_column c = record { name = c.0.now; kind = c.1; is_strict = true; not_null = c.2; default = Null; collation = Binary }
