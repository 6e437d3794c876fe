-- A table of a book's file by its columns: its rows and which of them fit, its schema, and the three texts on it.
use Rattle.std.specs.Prelude.{ℕ, ℤ, ◌+◌, ◌/◌, ◌%◌, nat_lt, List, [], ◌∷◌, ◌++◌, map, length, codes, slice_index_or, Bool, true, false, not, ◌&&◌, ◌||◌, ◌==◌, if◌then◌else◌, Option, None, Some}
use Rattle.std.specs.List.{list_all}
use Rattle.sqlite.specs.declared.types.Value.{Value}
use Rattle.sqlite.specs.declared.types.Value.TheVariants.{Null, Int, Text as Words}
use Rattle.sqlite.specs.Order.{Row, column}
use Rattle.sqlite_sql.specs.Ops.{is_null}
use Rattle.sqlite_schema.specs.declared.schema.Column.{Column as SqlColumn}
use Rattle.sqlite_schema.specs.declared.schema.Kind.{Kind as SqlKind}
use Rattle.sqlite_value.specs.Keys.{plain}
use Rattle.sqlite.specs.Collation.TheVariants.{Binary}
use Rattle.sqlite.specs.Table.{Table as SqlTable}
use Rattle.sqlite.specs.Kind.TheVariants.{Integer, Text}
use Rattle.record_history.specs.declared.records.Kind.{Kind}
use Rattle.store_sql.specs.Cells.{number_cell, day_cell, month_cell, kind_cell, flag_cell, maybe_day_cell, is_number, is_day, is_month, is_kind, is_flag, is_amount, is_words, is_maybe_day}

-- what a column holds of a row of A
pub data Content (A : Type 0) : Type 0 where
  number : (A → ℕ) → Content A
  day : (A → ℕ) → Content A
  month : (A → ℕ) → Content A
  kind : (A → Kind) → Content A
  flag : (A → Bool) → Content A
  amount : (A → ℤ) → Content A
  words : (A → List ℕ) → Content A
  maybe_day : (A → Option ℕ) → Content A

-- its name, and what it holds
abbrev pub Column : Type 0 → Type 0
Column A = List ℕ × Content A

-- A table of rows of A: its name; its tree; the number that is an INTEGER PRIMARY KEY, if there is one; its other columns;
-- by their places among all columns the two in which no two rows are the same, which are the PRIMARY KEY if there is no
-- other; and the row that cells stand for.
pub record Table (A : Type 0) : Type 0 where
  pub name : List ℕ
  pub tree : ℕ
  pub key : Option (List ℕ × (A → ℕ))
  pub columns : List (Column A)
  pub unique : List ℕ
  pub row_of : Row → A

abbrev pub key_columns : {A : Type 0} → Option (List ℕ × (A → ℕ)) → List (Column A)
key_columns None = []
key_columns (Some key) = (key.0, number key.1) ∷ []

abbrev pub all_columns : {A : Type 0} → Table A → List (Column A)
all_columns t = key_columns t.key ++ t.columns

-- ---- its rows

abbrev pub cell : {A : Type 0} → Content A → A → Value
cell (number of) a = number_cell (of a)
cell (day of) a = day_cell (of a)
cell (month of) a = month_cell (of a)
cell (kind of) a = kind_cell (of a)
cell (flag of) a = flag_cell (of a)
cell (amount of) a = Int (of a)
cell (words of) a = Words (of a)
cell (maybe_day of) a = maybe_day_cell (of a)

abbrev pub cells_of : {A : Type 0} → List (Column A) → A → Row
cells_of columns a = map (λ c. cell c.1 a) columns

-- the row that stands for one of A
abbrev pub cells : {A : Type 0} → Table A → A → Row
cells t = cells_of (all_columns t)

abbrev pub fits_cell : {A : Type 0} → Content A → Value → Bool
fits_cell (number of) v = is_number v
fits_cell (day of) v = is_day v
fits_cell (month of) v = is_month v
fits_cell (kind of) v = is_kind v
fits_cell (flag of) v = is_flag v
fits_cell (amount of) v = is_amount v
fits_cell (words of) v = is_words v
fits_cell (maybe_day of) v = is_maybe_day v

abbrev fit_from : {A : Type 0} → ℕ → List (Column A) → Row → Bool
fit_from at [] row = true
fit_from at (c ∷ cs) row = fits_cell c.1 (column row at) && fit_from (at + 1) cs row

-- of each column that may lack its value, whether it does
abbrev lacks_from : {A : Type 0} → ℕ → List (Column A) → Row → List Bool
lacks_from at [] row = []
lacks_from at ((name, maybe_day of) ∷ cs) row = is_null (column row at) ∷ lacks_from (at + 1) cs row
lacks_from at (c ∷ cs) row = lacks_from (at + 1) cs row

abbrev pub have_all_or_none : List Bool → Bool
have_all_or_none bs = list_all (λ b. b) bs || list_all not bs

-- A row has a cell for each column, which is of what the column holds; and the columns that may lack their values have them
-- all or none.
abbrev pub fits : {A : Type 0} → Table A → Row → Bool
fits t row =
    (length row == length (all_columns t)) && (fit_from 0 (all_columns t) row && have_all_or_none (lacks_from 0 (all_columns t) row))

-- ---- its texts

-- with a comma between each two
abbrev listed : List (List ℕ) → List ℕ
listed [] = []
listed (part ∷ []) = part
listed (part ∷ next ∷ parts) = part ++ codes ", " ++ listed (next ∷ parts)

abbrev pub names : {A : Type 0} → Table A → List (List ℕ)
names t = map (λ c. c.0) (all_columns t)

abbrev name_at : {A : Type 0} → Table A → ℕ → List ℕ
name_at t place = slice_index_or (names t) place []

-- the places of the columns by which the rows are listed
abbrev order_of : {A : Type 0} → Option (List ℕ × (A → ℕ)) → List ℕ → List ℕ
order_of None unique = unique
order_of (Some key) unique = 0 ∷ []

abbrev pub order : {A : Type 0} → Table A → List ℕ
order t = order_of t.key t.unique

abbrev type_text : {A : Type 0} → Content A → List ℕ
type_text (words of) = codes " TEXT NOT NULL"
type_text (maybe_day of) = codes " INTEGER"
type_text _ = codes " INTEGER NOT NULL"

abbrev key_texts : {A : Type 0} → Option (List ℕ × (A → ℕ)) → List (List ℕ)
key_texts None = []
key_texts (Some key) = (key.0 ++ codes " INTEGER PRIMARY KEY") ∷ []

abbrev rule_text : {A : Type 0} → Option (List ℕ × (A → ℕ)) → List ℕ
rule_text None = codes "PRIMARY KEY"
rule_text (Some key) = codes "UNIQUE"

abbrev pub create_text : {A : Type 0} → Table A → List ℕ
create_text t =
    codes "CREATE TABLE " ++ t.name ++ codes " ("
    ++ listed (key_texts t.key ++ map (λ c. c.0 ++ type_text c.1) t.columns ++ (rule_text t.key ++ codes " (" ++ listed (map (name_at t) t.unique) ++ codes ")") ∷ [])
    ++ codes ") STRICT"

-- of a number below 100
abbrev numeral : ℕ → List ℕ
numeral n = if nat_lt n 10 then ((48 + n) ∷ []) else ((48 + n / 10) ∷ (48 + n % 10) ∷ [])

-- a parameter for each, from this one on
abbrev parameters : {X : Type 0} → ℕ → List X → List (List ℕ)
parameters n [] = []
parameters n (x ∷ xs) = (codes "?" ++ numeral n) ∷ parameters (n + 1) xs

abbrev pub insert_text : {A : Type 0} → Table A → List ℕ
insert_text t = codes "INSERT INTO " ++ t.name ++ codes " (" ++ listed (names t) ++ codes ") VALUES (" ++ listed (parameters 1 (all_columns t)) ++ codes ")"

abbrev pub select_text : {A : Type 0} → Table A → List ℕ
select_text t = codes "SELECT " ++ listed (names t) ++ codes " FROM " ++ t.name ++ codes " ORDER BY " ++ listed (map (name_at t) (order t))

-- ---- its schema

abbrev sql_column : List ℕ → SqlKind → Bool → SqlColumn
sql_column name type not_null = record { name = name; kind = type; is_strict = true; not_null = not_null; default = Null; collation = Binary }

abbrev pub schema_column : {A : Type 0} → Column A → SqlColumn
schema_column (name, words of) = sql_column name Text true
schema_column (name, maybe_day of) = sql_column name Integer false
schema_column (name, _) = sql_column name Integer true

-- the key is never NULL, but isn't told to be
abbrev pub key_schema : {A : Type 0} → Option (List ℕ × (A → ℕ)) → List SqlColumn
key_schema None = []
key_schema (Some key) = sql_column key.0 Integer false ∷ []

abbrev pub key_place : {A : Type 0} → Option (List ℕ × (A → ℕ)) → Option ℕ
key_place None = None
key_place (Some key) = Some 0

-- as places in a stored row, which has its rowid at place 0
abbrev pub stored_unique : {A : Type 0} → Table A → List ℕ
stored_unique t = map (λ place. place + 1) t.unique

abbrev primary : {A : Type 0} → Option (List ℕ × (A → ℕ)) → List ℕ → List ℕ
primary None unique = unique
primary (Some key) unique = 0 ∷ []

-- a STRICT table of the columns and keys, and nothing else
abbrev pub schema_table : {A : Type 0} → Table A → SqlTable
schema_table t = record {
  name = t.name;
  tree = 0;
  columns = key_schema t.key ++ map schema_column t.columns;
  key = key_place t.key;
  primary = primary t.key (stored_unique t);
  uniques = stored_unique t ∷ [];
  orders = plain ∷ [];
  checks = [];
  references = [];
  computed = [];
  stamps = record { places = []; terms = []; formats = [] };
  is_counted = false;
}
