-- The places of units in the order of their names, by which a unit is found by its name.
use Rattle.std.specs.Prelude.{ℕ, Bool, List, [], length, slice_get}
use Rattle.std.specs.{Cmp.Lexicographic.slice_cmp, List.range_with_len, List.Sorted.IsPermutation, List.Sorted.IsSortedByKey, Option.option_map_or, Ordering.nat_cmp, Ordering.is_lt}
use Rattle.rent_table.specs.declared.rows.Unit.{Unit as UnitRow}

-- the name of the unit at that place, from 0
abbrev pub name_at : List UnitRow → ℕ → List ℕ
name_at units place = option_map_or (λ unit. unit.name) (slice_get units place) []

-- it comes before that name, by its bytes
abbrev pub is_before : List UnitRow → List ℕ → ℕ → Bool
is_before units name place = is_lt (slice_cmp nat_cmp (name_at units place) name)

-- they are the places of all units, in the order of the units' names
pub record AreByName (units : List UnitRow) (places : List ℕ) : Type 0 where
  pub all : IsPermutation (range_with_len 0 (length units)) places
  pub ordered : IsSortedByKey (name_at units) (slice_cmp nat_cmp) places
