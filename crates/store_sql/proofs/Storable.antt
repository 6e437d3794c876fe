-- A row of the book in a table: each of its cells is of its column's type, there if it must be, and a value that may be stored.
use Rattle.std.proofs.Common.{◌≡◌, ℕ, zero, suc, ◌+◌, ◌*◌, ◌≤◌, ℤ, pos, negsuc, Bool, true, false, not, ◌&&◌, ◌||◌, List, [], ◌∷◌, ◌++◌, map, drop, length, is_some, Option, None, Some, refl, sym, ap, subst, ◌∙◌, arith, append-nil, true≢false, fold, ◌-ℤ◌, if◌then◌else◌}
use Rattle.std.specs.List.{AllByRecursion, list_all, sum_by}
use Rattle.std.specs.Float.{NotNan}
use Rattle.std.specs.Float.Ieee
use Rattle.sqlite.specs.declared.types.Value.{Value}
use Rattle.sqlite.specs.declared.types.Value.TheVariants.{Null, Int, Text}
use Rattle.sqlite.specs.Order.{Row, column, number as number_of, bytes}
use Rattle.sqlite_sql.specs.Ops.{is_null}
use Rattle.sqlite_sql.specs.Term.{col}
use Rattle.std.proofs.lemmas.List.{length-map}
use Rattle.sqlite_typing.specs.Types.{accepts_terms, term_class}
use Rattle.sqlite_schema.specs.Names.{is_key}
use Rattle.sqlite_schema.specs.Rules.{are_typed, are_present, suits}
use Rattle.sqlite.specs.Rows.{stamped}
use Rattle.std.proofs.lemmas.Bool.{ne_eqb}
use Rattle.store_sql.specs.Cells.{number_cell, maybe_day_cell, kind_number}
use Rattle.store_sql.specs.Tables.{Content, Column, Table, number, day, month, kind, flag, amount, words, maybe_day, schema_column, cell, cells, cells_of, key_columns, key_schema, key_place}
use Rattle.store_sql.proofs.Meanings.{param_terms, terms_of, terms, table_at, stored_as}

both_true : (a b : Bool) → a ≡ true → b ≡ true → a && b ≡ true
both_true true b p q = q
both_true false b p q = absurd (true≢false (sym p))

-- ---- the rows are of the columns' types

suits_maybe_day : (name : List ℕ) (found : Option ℕ) → suits (schema_column {A = ℕ} (name, maybe_day (λ _. None))) (maybe_day_cell found) ≡ true
suits_maybe_day name None = refl
suits_maybe_day name (Some d) = refl

suits_cell : {A : Type 0} (name : List ℕ) (c : Content A) (a : A) → suits (schema_column (name, c)) (cell c a) ≡ true
suits_cell name (number of) a = refl
suits_cell name (day of) a = refl
suits_cell name (month of) a = refl
suits_cell name (kind of) a = refl
suits_cell name (flag of) a = refl
suits_cell name (amount of) a = refl
suits_cell name (words of) a = refl
suits_cell name (maybe_day of) a = suits_maybe_day name (of a)

typed_from : {A : Type 0} (key : Option ℕ) (columns : List (Column A)) (a : A) (at : ℕ) → ((i : ℕ) → at ≤ i → is_key key i ≡ false) → are_typed key at (map schema_column columns) (cells_of columns a) ≡ true
typed_from key [] a at none = refl
typed_from key ((name, c) ∷ columns) a at none = rw (none at (omega arith)) (both_true _ _ (suits_cell name c a) (typed_from key columns a (at + 1) (λ i low. none i (omega (arith, low)))))

no_key : (i : ℕ) → 1 ≤ i → is_key (Some 0) i ≡ false
no_key i low = ne_eqb 0 i (λ e. omega (arith, low, e))

pub are_typed_stored : {A : Type 0} (key : Option (List ℕ × (A → ℕ))) (columns : List (Column A)) (next : ℤ) (a : A)
    → are_typed (key_place key) 0 (key_schema key ++ map schema_column columns) (drop 1 (stored_as key columns next a)) ≡ true
are_typed_stored None columns next a = typed_from None columns a 0 (λ _ _. refl)
are_typed_stored (Some key) columns next a = typed_from (Some 0) columns a 1 no_key

-- ---- each cell stands in its place

cell_at : (at : ℕ) (row : Row) (v : Value) (vs : Row) → drop at row ≡ v ∷ vs → (column row at ≡ v) × (drop (at + 1) row ≡ vs)
cell_at zero row v vs is = (ap (λ (r : Row). column r 0) is, ap (drop 1) is)
cell_at (suc at) [] v vs is = absurd (cc)
cell_at (suc at) (x ∷ row) v vs is =
    let later = cell_at at row v vs is in
    let next : suc (at + 1) ≡ suc at + 1 = omega arith in
    (later.0, subst (λ n. drop n (x ∷ row) ≡ vs) next later.1)

present_cell : {A : Type 0} (is : Bool) (name : List ℕ) (c : Content A) (a : A) → is || not (schema_column (name, c)).not_null || not (is_null (cell c a)) ≡ true
present_cell true name c a = refl
present_cell false name (number of) a = refl
present_cell false name (day of) a = refl
present_cell false name (month of) a = refl
present_cell false name (kind of) a = refl
present_cell false name (flag of) a = refl
present_cell false name (amount of) a = refl
present_cell false name (words of) a = refl
present_cell false name (maybe_day of) a = refl

present_from : {A : Type 0} (key : Option ℕ) (columns : List (Column A)) (a : A) (at : ℕ) (row : Row) → drop (at + 1) row ≡ cells_of columns a → are_present key at (map schema_column columns) row ≡ true
present_from key [] a at row is = refl
present_from key ((name, c) ∷ columns) a at row is =
    let it = cell_at (at + 1) row _ _ is in
    both_true _ _ (subst (λ v. is_key key at || not (schema_column (name, c)).not_null || not (is_null v) ≡ true) (sym it.0) (present_cell (is_key key at) name c a)) (present_from key columns a (at + 1) row it.1)

pub are_present_stored : {A : Type 0} (key : Option (List ℕ × (A → ℕ))) (columns : List (Column A)) (next : ℤ) (a : A)
    → are_present (key_place key) 0 (key_schema key ++ map schema_column columns) (stored_as key columns next a) ≡ true
are_present_stored None columns next a = present_from None columns a 0 _ refl
are_present_stored (Some key) columns next a = present_from (Some 0) columns a 1 _ refl

-- ---- the parameters are of any type

class_maybe_day : (found : Option ℕ) → is_some (term_class (maybe_day_cell found ∷ []) [] (col 0 0)) ≡ true
class_maybe_day None = refl
class_maybe_day (Some d) = refl

class_cell : {A : Type 0} (c : Content A) (a : A) → is_some (term_class (cell c a ∷ []) [] (col 0 0)) ≡ true
class_cell (number of) a = refl
class_cell (day of) a = refl
class_cell (month of) a = refl
class_cell (kind of) a = refl
class_cell (flag of) a = refl
class_cell (amount of) a = refl
class_cell (words of) a = refl
class_cell (maybe_day of) a = class_maybe_day (of a)

classed_from : {A : Type 0} (columns : List (Column A)) (a : A) (at : ℕ) (row : Row) → drop at row ≡ cells_of columns a → list_all (λ t. is_some (term_class row [] t)) (param_terms at columns) ≡ true
classed_from [] a at row is = refl
classed_from (c ∷ columns) a at row is =
    let it = cell_at at row _ _ is in
    both_true _ _ (subst (λ v. is_some (term_class (v ∷ []) [] (col 0 0)) ≡ true) (sym it.0) (class_cell c.1 a)) (classed_from columns a (at + 1) row it.1)

classed : {A : Type 0} (key : Option (List ℕ × (A → ℕ))) (columns : List (Column A)) (a : A) → accepts_terms (terms_of key columns) (cells_of (key_columns key ++ columns) a) ≡ true
classed None columns a = classed_from columns a 0 (cells_of columns a) refl
classed (Some key) columns a = classed_from columns a 1 (number_cell (key.1 a) ∷ cells_of columns a) refl

pub are_accepted : {A : Type 0} (t : Table A) (a : A) → accepts_terms (terms t) (stamped (table_at t) (cells t a)) ≡ true
are_accepted t a = subst (λ row. accepts_terms (terms t) row ≡ true) (sym (append-nil (cells t a))) (classed t.key t.columns a)

-- ---- the values may be stored

pub whole_number : (n : ℤ) → NotNan (number_of (Int n))
unfolding Ieee.is_nan
whole_number (pos n) = tt
whole_number (negsuc n) = tt

no_number : (text : List ℕ) → NotNan (number_of (Text text))
unfolding Ieee.is_nan
no_number text = tt

null_number : NotNan (number_of Null)
unfolding Ieee.is_nan
null_number = tt

number_maybe_day : (found : Option ℕ) → NotNan (number_of (maybe_day_cell found))
number_maybe_day None = null_number
number_maybe_day (Some d) = whole_number (pos d -ℤ pos 32872)

number_cell_at : {A : Type 0} (c : Content A) (a : A) → NotNan (number_of (cell c a))
number_cell_at (number of) a = whole_number (pos (of a))
number_cell_at (day of) a = whole_number (pos (of a) -ℤ pos 32872)
number_cell_at (month of) a = whole_number (pos (of a + 22560))
number_cell_at (kind of) a = whole_number (kind_number (of a))
number_cell_at (flag of) a = whole_number (if of a then pos 1 else pos 0)
number_cell_at (amount of) a = whole_number (of a)
number_cell_at (words of) a = no_number (of a)
number_cell_at (maybe_day of) a = number_maybe_day (of a)

numbers_of : {A : Type 0} (columns : List (Column A)) (a : A) → AllByRecursion (λ v. NotNan (number_of v)) (cells_of columns a)
numbers_of [] a = tt
numbers_of (c ∷ columns) a = (number_cell_at c.1 a, numbers_of columns a)

pub stored_numbers : {A : Type 0} (key : Option (List ℕ × (A → ℕ))) (columns : List (Column A)) (next : ℤ) (a : A) → AllByRecursion (λ v. NotNan (number_of v)) (stored_as key columns next a)
stored_numbers None columns next a = (whole_number next, numbers_of columns a)
stored_numbers (Some key) columns next a = (whole_number (pos (key.1 a)), (null_number, numbers_of columns a))

abbrev words_of : {A : Type 0} → Content A → A → ℕ
words_of (words of) a = length (of a)
words_of _ a = 0

-- how long the words of a row are
abbrev pub words_in : {A : Type 0} → List (Column A) → A → ℕ
words_in [] a = 0
words_in (c ∷ columns) a = words_of c.1 a + words_in columns a

abbrev pub size : Row → ℕ
size = sum_by (λ v. 18 + length (bytes v))

no_bytes : (found : Option ℕ) → length (bytes (maybe_day_cell found)) ≡ 0
no_bytes None = refl
no_bytes (Some d) = refl

bytes_of : {A : Type 0} (c : Content A) (a : A) → length (bytes (cell c a)) ≡ words_of c a
bytes_of (number of) a = refl
bytes_of (day of) a = refl
bytes_of (month of) a = refl
bytes_of (kind of) a = refl
bytes_of (flag of) a = refl
bytes_of (amount of) a = refl
bytes_of (words of) a = refl
bytes_of (maybe_day of) a = no_bytes (of a)

-- on top of what comes before
size_of : {A : Type 0} (columns : List (Column A)) (a : A) (before : ℕ) → fold (λ n v. n + (18 + length (bytes v))) before (cells_of columns a) ≡ before + 18 * length columns + words_in columns a
size_of [] a before = omega arith
size_of (c ∷ columns) a before = size_of columns a (before + (18 + length (bytes (cell c.1 a)))) ∙ omega (arith, bytes_of c.1 a)

pub stored_size : {A : Type 0} (key : Option (List ℕ × (A → ℕ))) (columns : List (Column A)) (next : ℤ) (a : A) → size (stored_as key columns next a) ≤ 36 + 18 * length columns + words_in columns a
stored_size None columns next a = subst (λ n. n ≤ 36 + 18 * length columns + words_in columns a) (sym (size_of columns a 18)) (omega arith)
stored_size (Some key) columns next a = subst (λ n. n ≤ 36 + 18 * length columns + words_in columns a) (sym (size_of columns a 36)) (omega arith)

pub stored_length : {A : Type 0} (key : Option (List ℕ × (A → ℕ))) (columns : List (Column A)) (next : ℤ) (a : A) → (1 + length columns ≤ length (stored_as key columns next a)) × (length (stored_as key columns next a) ≤ 2 + length columns)
stored_length None columns next a = (omega (arith, length-map columns (λ c. cell c.1 a)), omega (arith, length-map columns (λ c. cell c.1 a)))
stored_length (Some key) columns next a = (omega (arith, length-map columns (λ c. cell c.1 a)), omega (arith, length-map columns (λ c. cell c.1 a)))
