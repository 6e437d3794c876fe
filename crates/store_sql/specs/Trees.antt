-- What stands in the three tables of a file, and what statements add to it.
use Rattle.std.specs.Prelude.{◌≡◌, ℕ, ◌+◌, Option, None, Some, List, [], ◌∷◌, ◌++◌, map, IsPermutation}
use Rattle.std.specs.declared.cmp.Ordering.{Ordering}
use Rattle.std.specs.declared.cmp.Ordering.TheVariants.{Less, Equal}
use Rattle.std.specs.Ordering.{ordering_then}
use Rattle.sqlite.specs.Order.{Row, column, value_cmp}
use Rattle.sqlite.specs.Tree.{Trees, IsAscending}
use Rattle.store_sql.specs.Tables.{Table, Column, order}
use Rattle.store_sql.specs.Columns.{acts, records, lines}

-- so many numbers from this one on
abbrev counted : {X : Type 0} → ℕ → List X → List ℕ
counted from [] = []
counted from (x ∷ xs) = from ∷ counted (from + 1) xs

-- the places of the columns in a stored row: a key is the rowid, which stands at place 0, and its own column is NULL
abbrev places_of : {A : Type 0} → Option (List ℕ × (A → ℕ)) → List (Column A) → List ℕ
places_of None columns = counted 1 columns
places_of (Some key) columns = 0 ∷ counted 2 columns

abbrev pub places : {A : Type 0} → Table A → List ℕ
places t = places_of t.key t.columns

-- what a query shows of a stored row
abbrev pub shown : {A : Type 0} → Table A → Row → Row
shown t row = map (column row) (places t)

abbrev pub rows_in : {A : Type 0} → Table A → Trees → List Row
rows_in t trees = map (shown t) (trees t.tree)

abbrev by_places : List ℕ → Row → Row → Ordering
by_places [] a b = Equal
by_places (place ∷ places) a b = ordering_then (value_cmp (column a place) (column b place)) (by_places places a b)

-- the order of the keys
abbrev pub by_key : {A : Type 0} → Table A → Row → Row → Ordering
by_key t = by_places (order t)

-- the keys rise, so none comes twice
abbrev pub Rises : {X : Type 0} → (X → X → Ordering) → List X → Type 0
Rises cmp = IsAscending (λ a b. cmp a b ≡ Less)

-- the table holds these rows, listed by their keys
pub record Lists {A : Type 0} (t : Table A) (trees : Trees) (rows : List Row) : Type 0 where
  pub are : IsPermutation rows (rows_in t trees)
  pub rise : Rises (by_key t) rows

-- so do the three tables
pub record StandsFor (trees : Trees) (act_rows record_rows line_rows : List Row) : Type 0 where
  pub acts : Lists acts trees act_rows
  pub records : Lists records trees record_rows
  pub lines : Lists lines trees line_rows

-- the tables hold these rows more
pub record Adds (act_rows record_rows line_rows : List Row) (old new : Trees) : Type 0 where
  pub acts_are : IsPermutation (rows_in acts old ++ act_rows) (rows_in acts new)
  pub records_are : IsPermutation (rows_in records old ++ record_rows) (rows_in records new)
  pub lines_are : IsPermutation (rows_in lines old ++ line_rows) (rows_in lines new)

-- the tables hold no row
pub record HoldsNone (trees : Trees) : Type 0 where
  pub acts : rows_in acts trees ≡ []
  pub records : rows_in records trees ≡ []
  pub lines : rows_in lines trees ≡ []
