-- What is told of uses stays told as one more record comes.
use Rattle.tenancy_rules.proofs.Words.{◌≡◌, refl, subst, ℕ, ◌<◌, ◌≤◌, true, List, [], ◌∷◌, ◌++◌, length, get_or, arith, ◌&&◌, ◌==◌, nat_lt, All, Contains, nat_tests, common_steps, cond_both, All-push, All-weaker, All-contains, All-contains_itself, Record, records_of}
use Rattle.std.proofs.Common.{◌⊎◌, ◌-◌, inl, inr}
use Rattle.std.specs.Prelude.{insert}
use Rattle.std.specs.List.{list_any}
use Rattle.std.proofs.lemmas.Bool.{cases_lt}
use Rattle.std.proofs.lemmas.List.{get_or_past, get_or-set_same, get_or-set_other, set_past}
use Rattle.std.proofs.lemmas.List.Elements.{All-nil, Contains-append_right}
use Rattle.std.proofs.lemmas.List.Folds.{Any-from_list_any}
use Rattle.std.proofs.lemmas.List.Sorted.{IsPermutation-insert, Contains-permutation}
use Rattle.list_laws.proofs.Filters.{filter-contains}
use Rattle.record_history.specs.Held.{with_place, with_record}
use Rattle.record_history.proofs.Kept.{records_at}
use Rattle.tenancy_rules.specs.declared.uses.Use.{Use}
use Rattle.tenancy_rules.specs.Uses.{of_unit, TellUses, UnitsNeverFall}

-- a use that equals one of the unit is told
pub told_use : (uses : List Use) (used : Use) → list_any (λ (y : Use). y.unit == used.unit && y.household == used.household) (of_unit uses used.unit) ≡ true → Contains uses used
told_use uses used is = by (Any-from_list_any (λ (y : Use). y.unit == used.unit && y.household == used.household) (of_unit uses used.unit) is)
  where
    by : (k : ℕ) × (y : Use) × (k < length (of_unit uses used.unit)) × (get_or (of_unit uses used.unit) k y ≡ y) × ((y.unit == used.unit && y.household == used.household) ≡ true) →
        Contains uses used
    by (k, y, within, at, same) =
        let is_it : y ≡ used = grind (arith, nat_tests, same) in
        subst (Contains uses) is_it (filter-contains (λ (z : Use). z.unit == used.unit) uses y (k, within, at)).0

-- those that were told are told once one more is put in
pub kept-insert : (uses : List Use) (i : ℕ) (used : Use) → All (Contains (insert uses i used)) uses
kept-insert uses i used =
    All-weaker (Contains uses) (Contains (insert uses i used))
    (λ x has. Contains-permutation (used ∷ uses) (insert uses i used) x (IsPermutation-insert uses i used) (Contains-append_right (used ∷ []) uses x has))
    uses (All-contains_itself uses)

module _ (households : List (List Record)) (held : Record) (has : 1 ≤ held.household) where
  abbrev placed : List (List Record)
  placed = with_place households (held.household - 1)

  abbrev own : List Record
  own = records_of placed held.household

  last : (k : ℕ) → get_or (households ++ [] ∷ []) k [] ≡ get_or households k []
  last k = grind (arith, common_steps, get_or_past)

  same_at : (k : ℕ) → get_or placed k [] ≡ get_or households k []
  same_at k =
      cond_both (nat_lt (held.household - 1) (length households)) _ _ (λ lists. get_or lists k [] ≡ get_or households k []) (λ _. refl) (λ _. last k)

  module _ (P : ℕ → Record → Type 0) (all : (household : ℕ) → All (P household) (records_of households household)) (is : P held.household held) where
    before_at : (household : ℕ) → 1 ≤ household → All (P household) (get_or placed (household - 1) [])
    before_at household there = rw (same_at (household - 1)) (rw (records_at households household there) at (all household))

    after_at : (household : ℕ) → 1 ≤ household → All (P household) (get_or (with_record placed held) (household - 1) [])
    after_at household there = by_place (cases_lt (household - 1) (held.household - 1)) (cases_lt (held.household - 1) (household - 1)) (cases_lt (held.household - 1) (length placed))
      where
        by_place : (household - 1 < held.household - 1) ⊎ (held.household - 1 ≤ household - 1) → (held.household - 1 < household - 1) ⊎ (household - 1 ≤ held.household - 1) →
            (held.household - 1 < length placed) ⊎ (length placed ≤ held.household - 1) → All (P household) (get_or (with_record placed held) (household - 1) [])
        by_place (inl less) _ _ =
            rw (get_or-set_other placed (held.household - 1) (household - 1) (own ++ held ∷ []) [] (λ same. absurd (omega (arith, less, same)))) (before_at household there)
        by_place (inr from) (inl more) _ =
            rw (get_or-set_other placed (held.household - 1) (household - 1) (own ++ held ∷ []) [] (λ same. absurd (omega (arith, more, same)))) (before_at household there)
        by_place (inr from) (inr to) (inr past) =
            rw (set_past placed (held.household - 1) (own ++ held ∷ []) past) (before_at household there)
        by_place (inr from) (inr to) (inl within) =
            let same : held.household ≡ household = omega (arith, from, to, there, has) in
            let own_all : All (P held.household) own = rw (records_at placed held.household has) (before_at held.household has) in
            subst (λ h. All (P h) (get_or (with_record placed held) (h - 1) [])) same
            (rw (get_or-set_same placed (held.household - 1) (own ++ held ∷ []) [] within) (All-push (P held.household) own held own_all is))

    pub records_among : (household : ℕ) → All (P household) (records_of (with_record placed held) household)
    records_among household = by_number (cases_lt 0 household)
      where
        by_number : (0 < household) ⊎ (household ≤ 0) → All (P household) (records_of (with_record placed held) household)
        by_number (inl there) = rw (records_at (with_record placed held) household (omega arith)) (after_at household (omega arith))
        by_number (inr none) = (let zero_is : household ≡ 0 = omega arith in rw zero_is (All-nil (P 0)))

-- one record more is told with those before it
pub told_push : (households : List (List Record)) (uses more : List Use) (held : Record) → 1 ≤ held.household → TellUses households uses → UnitsNeverFall more →
    All (Contains more) uses → Contains more (record { unit = held.unit; household = held.household }) →
    TellUses (with_record (with_place households (held.household - 1)) held) more
told_push households uses more held has tells in_order kept told = record {
  in_order = in_order;
  told = records_among households held has (λ household r. Contains more (record { unit = r.unit; household = household }))
      (λ household. All-weaker (λ (r : Record). Contains uses (record { unit = r.unit; household = household }))
      (λ (r : Record). Contains more (record { unit = r.unit; household = household }))
      (λ r was. All-contains (Contains more) uses (record { unit = r.unit; household = household }) kept was) (records_of households household) (tells.told household))
      told;
}
