-- A unit by its name, found among the places in the order of names.
use Rattle.rent_table.proofs.Words.{◌≡◌, ◌∙◌, sym, ap, ℕ, ◌+◌, ◌≤◌, ◌<◌, nat_eq, Bool, true, false, List, [], ◌∷◌, ◌++◌, length, suc, get_or, subst, inl, inr, arith, length-append, Option, Some, None, find, slice_get, pointwise, slice_cmp, same_text, insert, range_with_len, option_map_or, nat_list_cmp_total, ranks_by, UnitRow, name_at, is_before, AreByName, has_name, HaveOwnNames, find_key, IsSortedBy-insert, find_own, none_at_places, places_within, all_places-insert}
use Rattle.std.specs.{Cmp.IsStrictWeakOrder, List.Sorted.IsPartitionPoint, List.Sorted.IsPermutation, Ordering.nat_cmp, Ordering.is_lt}
use Rattle.std.proofs.lemmas.Map.Text.{is_eq-slice_cmp}
use Rattle.std.proofs.lemmas.Option.{none-some, slice_get_cases, slice_get_within, get_or_from_slice_get}
use Rattle.row_index.proofs.Points.{if_passes, found_not_there, nothing_there}
use Rattle.list_laws.proofs.Elements.{slice_get-append, slice_get-last}

-- the unit at that place has the name
abbrev has_name_at : List UnitRow → List ℕ → ℕ → Bool
has_name_at units name place = pointwise nat_eq (name_at units place) name

named : (units : List UnitRow) (name : List ℕ) (place : ℕ) (unit : UnitRow) → slice_get units place ≡ Some unit → has_name_at units name place ≡ has_name name unit
named units name place unit is = ap (λ (there : Option UnitRow). pointwise nat_eq (option_map_or (λ u. u.name) there []) name) is

module _ (units : List UnitRow) (places : List ℕ) (by : AreByName units places) (name : List ℕ) (i : ℕ) (le : i ≤ length places)
    (point : IsPartitionPoint (λ place. is_before units name place ≡ true) (λ place. is_before units name place ≡ false) places i)
    (read : Option ℕ) (there : read ≡ slice_get places i) where
  first_named : find (has_name_at units name) places ≡ if_passes (has_name_at units name) (slice_get places i)
  first_named = find_key nat_list_cmp_total (name_at units) places by.ordered name (λ k. pointwise nat_eq k name) (λ k. is_eq-slice_cmp k name) i le point

  no_place : None ≡ find (has_name_at units name) places → None ≡ find (has_name name) units
  no_place none = sym (none_at_places (has_name name) units places (has_name_at units name) by.all (named units name) (sym none))

  -- none has the name, where all names come before it
  pub past_all : read ≡ None → None ≡ find (has_name name) units
  past_all is = no_place (nothing_there (has_name_at units name) places i first_named read there is)

  -- or where the first that doesn't has another
  pub another_there : (place : ℕ) (unit : UnitRow) → read ≡ Some place → slice_get units place ≡ Some unit → has_name name unit ≡ false → None ≡ find (has_name name) units
  another_there place unit is at other =
      no_place (found_not_there (has_name_at units name) places i first_named read there place is (named units name place unit at ∙ other))

  -- and there is one at that place
  pub unit_is_there : (place : ℕ) → read ≡ Some place → slice_get units place ≡ None → None ≡ find (has_name name) units
  unit_is_there place is none = absurd (elim (slice_get_cases units place).1 [
    | inl (unit, within, at, _) ↦ none-some unit (sym none ∙ at)
    | inr (past, _) ↦ omega (arith, past, within_units)
  ])
    where
      at : slice_get places i ≡ Some place
      at = sym there ∙ is

      within_units : place < length units
      within_units = rw (get_or_from_slice_get places i place place at) at (places_within (length units) places by.all i place (slice_get_within places i place at))

-- a unit that has the name is the one of that name
pub own_name : (units : List UnitRow) → HaveOwnNames units → (name : List ℕ) (place : ℕ) (unit : UnitRow) → slice_get units place ≡ Some unit → has_name name unit ≡ true →
    Some unit ≡ find (has_name name) units
own_name units own name place unit at is =
    sym (find_own (λ (u : UnitRow). u.name) name (has_name name) (λ u same. same_text u.name name (sym same)) units own place unit at is)

-- a unit more leaves each its name
name_at-earlier : (units : List UnitRow) (unit : UnitRow) (place : ℕ) → place < length units → name_at (units ++ unit ∷ []) place ≡ name_at units place
name_at-earlier units unit place within = ap (λ (there : Option UnitRow). option_map_or (λ u. u.name) there []) (slice_get-append units (unit ∷ []) place within)

name_at-last : (units : List UnitRow) (unit : UnitRow) → name_at (units ++ unit ∷ []) (length units) ≡ unit.name
name_at-last units unit = ap (λ (there : Option UnitRow). option_map_or (λ u. u.name) there []) (slice_get-last units unit)

-- a unit more, whose place goes where the names that come before its own end
module _ (units : List UnitRow) (places : List ℕ) (unit : UnitRow) (i : ℕ) (by : AreByName units places) (le : i ≤ length places)
    (point : IsPartitionPoint (λ place. is_before units unit.name place ≡ true) (λ place. is_before units unit.name place ≡ false) places i) where
  abbrev before : ℕ → ℕ → Bool
  before place other = is_lt (slice_cmp nat_cmp (name_at (units ++ unit ∷ []) place) (name_at (units ++ unit ∷ []) other))

  within : (k d : ℕ) → k < length places → get_or places k d < length units
  within = places_within (length units) places by.all

  still : (k d : ℕ) → k < length places → name_at (units ++ unit ∷ []) (get_or places k d) ≡ name_at units (get_or places k d)
  still k d low = name_at-earlier units unit (get_or places k d) (within k d low)

  pub AreByName-push : AreByName (units ++ unit ∷ []) (insert places i (length units))
  AreByName-push = record {
    all = subst (λ n. IsPermutation (range_with_len 0 n) (insert places i (length units))) {x = suc (length units)} (omega (arith, length-append units (unit ∷ [])))
        (all_places-insert (length units) i places by.all);
    ordered = IsSortedBy-insert before places i (length units)
        (λ k d low high. rw (still (k + 1) d high, still k d (omega (arith, high))) (by.ordered k d low high))
        le
        (λ k d lower. rw (name_at-last units unit, still k d (omega (arith, lower, le)))
        (order.one_way (name_at units (get_or places k d)) unit.name (point.0 k d (omega arith) lower)))
        (λ k d from high. rw (name_at-last units unit, still k d high) (point.1 k d from high));
  }
    where
      order : IsStrictWeakOrder (λ (name other : List ℕ). is_lt (slice_cmp nat_cmp name other))
      order = ranks_by nat_list_cmp_total (λ (name : List ℕ). name)
