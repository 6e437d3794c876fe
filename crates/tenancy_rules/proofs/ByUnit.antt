-- The first double use is found among the households that ever had a record in a unit.
use Rattle.tenancy_rules.proofs.Words.{◌≡◌, ◌∙◌, sym, ap, refl, subst, ℕ, ◌<◌, ◌≤◌, ◌+◌, Bool, true, false, List, [], ◌∷◌, ◌++◌, length, Option, Some, None, arith, ◌==◌, not, nat_lt, nat_le, filter, fold, option_and_then, All, Contains, IfSome, IsSomeAnd, and_parts, nat_tests, common_steps, All-contains, All-contains_itself, All-filter, latest-among, IsFirst, Record, is_live, live_records, records_of, comes_before, latest, Change, changed_records, without, listed, unit_kept, occupied_unit_on, have_one_unit_on, is_rival_on, DoubleUse, use_on}
use Rattle.std.proofs.Common.{◌⊎◌, inl, inr, eq-eqb, ◌-◌, take, drop, append-nil}
use Rattle.std.specs.List.Sorted.{IsPartitionPoint}
use Rattle.std.proofs.lemmas.Bool.{cases_lt}
use Rattle.std.proofs.lemmas.List.Sums.{fold_more}
use Rattle.std.proofs.Common.{get_or}
use Rattle.std.proofs.lemmas.List.{length-take, length-drop, get_or-take, get_or-drop, take-append-drop}
use Rattle.std.specs.Option.{option_map_or, option_eq}
use Rattle.std.specs.Prelude.{nat_eq}
use Rattle.std.proofs.lemmas.Bool.{eqb-true, not-false}
use Rattle.std.proofs.lemmas.List.Elements.{All-nil, All-cons, All-head, All-tail, Contains-append_cases, filter-append}
use Rattle.list_laws.proofs.Filters.{Contains-filter, filter-contains, filter_none, filter_all}
use Rattle.tenancy_rules.specs.declared.uses.Use.{Use}
use Rattle.tenancy_rules.specs.Uses.{of_unit, TellUses, end_beside, sooner_use, sooner_uses}
use Rattle.tenancy_rules.specs.Occupancy.{first_double_use}
use Rattle.tenancy_rules.specs.UseLaw.{IsDoubleUse}
use Rattle.tenancy_rules.proofs.{Rivals.first_before-is, UseLaws.both_have, FirstUse.rival_is, FirstUse.double_is, FirstUse.double_use_is_first, FirstUse.no_double_use}

-- ---- the search among uses

module _ (is_rival : ℕ → ℕ → Bool) (end : ℕ) where
  -- a double use is found, and one before the end
  abbrev pub IsFound : Option DoubleUse → Type 0
  IsFound found = IfSome found (λ double. (double.day < end) × (is_rival double.household double.day ≡ true))

  -- no double use with the household comes before the one that is found
  abbrev pub IsPassed : Option DoubleUse → ℕ → Type 0
  IsPassed found other =
      (day : ℕ) → day < end → is_rival other day ≡ true → IsSomeAnd found (λ double. (double.day < day) ⊎ ((double.day ≡ day) × (double.household ≤ other)))

  -- by the first day on which the household is a rival
  step_found : (found : Option DoubleUse) (used : Use) (sooner : Option ℕ) → IsFirst (is_rival used.household) 0 (end_beside found used.household end) sooner →
      IsFound found → IsFound (option_map_or (λ day. Some (use_on day used.household)) sooner found)
  step_found found used sooner first is = grind (arith, nat_tests, common_steps)

  step_passed : (found : Option DoubleUse) (used : Use) (sooner : Option ℕ) → IsFirst (is_rival used.household) 0 (end_beside found used.household end) sooner →
      IsFound found → IsPassed (option_map_or (λ day. Some (use_on day used.household)) sooner found) used.household
  step_passed found used sooner first is day before rival = grind (arith, nat_tests, common_steps)

  step_still : (found : Option DoubleUse) (used : Use) (sooner : Option ℕ) (other : ℕ) → IsFirst (is_rival used.household) 0 (end_beside found used.household end) sooner →
      IsPassed found other → IsPassed (option_map_or (λ day. Some (use_on day used.household)) sooner found) other
  step_still found used sooner other first passed day before rival = (let was = passed day before rival in grind (arith, nat_tests, common_steps))

  -- a household that is passed is no use to look at again
  step_idle : (found : Option DoubleUse) (used : Use) (sooner : Option ℕ) → IsFirst (is_rival used.household) 0 (end_beside found used.household end) sooner →
      IsFound found → IsPassed found used.household → option_map_or (λ day. Some (use_on day used.household)) sooner found ≡ found
  step_idle found used None first is passed = refl
  step_idle None used (Some day) first is passed = (let was = passed day in grind (arith, nat_tests, common_steps))
  step_idle (Some double) used (Some day) first is passed = (let was = passed day in grind (arith, nat_tests, common_steps))

  pub uses_idle : (found : Option DoubleUse) (uses : List Use) → IsFound found → All (λ used. IsPassed found used.household) uses →
      fold (sooner_use is_rival end) found uses ≡ found
  uses_idle found [] is passed = refl
  uses_idle found (used ∷ uses) is passed =
      rw (step_idle found used _ (first_before-is _ (is_rival used.household)) is (All-head (λ used. IsPassed found used.household) used uses passed))
      (uses_idle found uses is (All-tail (λ used. IsPassed found used.household) used uses passed))

  uses_found : (found : Option DoubleUse) (uses : List Use) → IsFound found → IsFound (fold (sooner_use is_rival end) found uses)
  uses_found found [] is = is
  uses_found found (used ∷ uses) is =
      uses_found (sooner_use is_rival end found used) uses (step_found found used _ (first_before-is _ (is_rival used.household)) is)

  uses_still : (found : Option DoubleUse) (uses : List Use) (other : ℕ) → IsPassed found other → IsPassed (fold (sooner_use is_rival end) found uses) other
  uses_still found [] other passed = passed
  uses_still found (used ∷ uses) other passed =
      uses_still (sooner_use is_rival end found used) uses other (step_still found used _ other (first_before-is _ (is_rival used.household)) passed)

  pub uses_passed : (found : Option DoubleUse) (uses : List Use) → IsFound found →
      All (λ used. IsPassed (fold (sooner_use is_rival end) found uses) used.household) uses
  uses_passed found [] is = All-nil (λ used. IsPassed found used.household)
  uses_passed found (used ∷ uses) is =
      let next = sooner_use is_rival end found used in
      let first = first_before-is (end_beside found used.household end) (is_rival used.household) in
      All-cons (λ used. IsPassed (fold (sooner_use is_rival end) next uses) used.household) used uses
      (uses_still next uses used.household (step_passed found used _ first is))
      (uses_passed next uses (step_found found used _ first is))

  module _ (uses : List Use) where
    -- all households that had a record in the unit of that one are passed
    abbrev pub ArePassed : Option DoubleUse → Record → Type 0
    ArePassed found r = All (λ used. IsPassed found used.household) (of_unit uses r.unit)

    pub records_found : (found : Option DoubleUse) (records : List Record) → IsFound found → IsFound (fold (sooner_uses is_rival end uses) found records)
    records_found found [] is = is
    records_found found (r ∷ records) is = records_found (sooner_uses is_rival end uses found r) records (uses_found found (of_unit uses r.unit) is)

    records_still : (found : Option DoubleUse) (records : List Record) (other : ℕ) → IsPassed found other → IsPassed (fold (sooner_uses is_rival end uses) found records) other
    records_still found [] other passed = passed
    records_still found (r ∷ records) other passed =
        records_still (sooner_uses is_rival end uses found r) records other (uses_still found (of_unit uses r.unit) other passed)

    records_passed : (found : Option DoubleUse) (records : List Record) → IsFound found →
        All (ArePassed (fold (sooner_uses is_rival end uses) found records)) records
    records_passed found [] is = All-nil (ArePassed found)
    records_passed found (r ∷ records) is =
        let next = sooner_uses is_rival end uses found r in
        All-cons (ArePassed (fold (sooner_uses is_rival end uses) next records)) r records
        (λ k d within. records_still next records _ (uses_passed found (of_unit uses r.unit) is k d within))
        (records_passed next records (uses_found found (of_unit uses r.unit) is))

    -- of records one after another, those of a unit whose uses were gone through last are passed over
    module _ (records : List Record) (k : ℕ) (r : Record) (within : k < length records) (at : get_or records k r ≡ r) (first next : Option DoubleUse)
        (so_far : first ≡ fold (sooner_uses is_rival end uses) None (take k records)) (done done_next : Option ℕ) where
      abbrev IsDone : Type 0
      IsDone =
          (next ≡ fold (sooner_uses is_rival end uses) None (take (k + 1) records))
          × IfSome done_next (λ unit. All (λ used. IsPassed next used.household) (of_unit uses unit))

      step : fold (sooner_uses is_rival end uses) None (take (k + 1) records) ≡ sooner_uses is_rival end uses first r
      step = rw at at (fold_more (sooner_uses is_rival end uses) None records k r within) ∙ ap (λ found. sooner_uses is_rival end uses found r) (sym so_far)

      found : IsFound first
      found = rw so_far (records_found None (take k records) tt)

      pub unit_gone_through : (of : List Use) → of ≡ of_unit uses r.unit → next ≡ fold (sooner_use is_rival end) first of → done_next ≡ Some r.unit → IsDone
      unit_gone_through of of_is next_is is = rw (next_is, of_is, is) (sym step, uses_passed first (of_unit uses r.unit) found)

      pub unit_passed_over : done ≡ Some r.unit → IfSome done (λ unit. All (λ used. IsPassed first used.household) (of_unit uses unit)) → next ≡ first → done_next ≡ done → IsDone
      unit_passed_over same passed next_is is =
          let of_r = rw same at passed in
          rw (next_is, is, same) (sym (step ∙ uses_idle first (of_unit uses r.unit) found of_r), of_r)

-- the unit is the one whose uses were gone through last
pub same_unit : (done : Option ℕ) (unit : ℕ) → not (option_eq nat_eq done (Some unit)) ≡ false → done ≡ Some unit
same_unit None unit is = absurd (cc)
same_unit (Some other) unit is = ap Some (eqb-true other unit (not-false (nat_eq other unit) is))

-- ---- who has a unit had a record in it

occupied_by : (records : List Record) (day unit : ℕ) → occupied_unit_on records day ≡ Some unit → (r : Record) × Contains records r × (r.unit ≡ unit)
occupied_by records day unit is =
    by_force (latest (filter (λ (r : Record). nat_le r.from day) records))
    (latest-among comes_before (Contains records) None (filter (λ (r : Record). nat_le r.from day) records) tt
    (All-filter (λ (r : Record). nat_le r.from day) (Contains records) records (All-contains_itself records))) is
  where
    by_force : (force : Option Record) → IfSome force (Contains records) → option_and_then unit_kept force ≡ Some unit → (r : Record) × Contains records r × (r.unit ≡ unit)
    by_force None among is = absurd (cc)
    by_force (Some r) among is = (r, among, grind (arith, common_steps, is))

module _ (households : List (List Record)) (household : ℕ) (change : Change) (uses : List Use) (told : TellUses households uses)
    (own : List Record) (all : All (Contains own) (live_records (records_of households household)))
  where
    abbrev rival : ℕ → ℕ → Bool
    rival = is_rival_on households household change

    abbrev with_added : Option DoubleUse → Option DoubleUse
    with_added found = fold (sooner_uses rival 80354 uses) found (listed change.add)

    abbrev all_found : Option DoubleUse
    all_found = with_added (fold (sooner_uses rival 80354 uses) None own)

    -- it is told that the other had a record in the unit
    told_of : (other unit day : ℕ) → occupied_unit_on (live_records (records_of households other)) day ≡ Some unit →
        Contains (of_unit uses unit) (record { unit = unit; household = other })
    told_of other unit day has =
        let by = occupied_by (live_records (records_of households other)) day unit has in
        let there = (filter-contains (is_live (records_of households other)) (records_of households other) by.0 by.1).0 in
        let use_there : Contains uses (record { unit = unit; household = other }) =
        subst (λ n. Contains uses (record { unit = n; household = other })) by.2
        (All-contains (λ (r : Record). Contains uses (record { unit = r.unit; household = other })) (records_of households other) by.0 (told.told other) there) in
        Contains-filter (λ (used : Use). used.unit == unit) uses (record { unit = unit; household = other }) use_there (eq-eqb unit unit refl)

    -- so no double use is passed over
    none_before : (other day : ℕ) → IsDoubleUse households household change (use_on day other) → IsPassed rival 80354 all_found other
    none_before other day double =
        let by = occupied_by (changed_records (records_of households household) change) day double.unit double.own in
        let there = told_of other double.unit day double.others in
        by_record by.0 by.2 (Contains-append_cases (without change.«drop» (live_records (records_of households household))) (listed change.add) by.0 by.1) there
      where
        from_own : All (ArePassed rival 80354 uses (fold (sooner_uses rival 80354 uses) None own)) own
        from_own = records_passed rival 80354 uses None own tt

        found_own : IsFound rival 80354 (fold (sooner_uses rival 80354 uses) None own)
        found_own = records_found rival 80354 uses None own tt

        from_added : All (ArePassed rival 80354 uses all_found) (listed change.add)
        from_added = records_passed rival 80354 uses (fold (sooner_uses rival 80354 uses) None own) (listed change.add) found_own

        by_record : (r : Record) → r.unit ≡ double.unit → Contains (without change.«drop» (live_records (records_of households household))) r ⊎ Contains (listed change.add) r →
            Contains (of_unit uses double.unit) (record { unit = double.unit; household = other }) → IsPassed rival 80354 all_found other
        by_record r same (inl kept) there =
            let lives = (filter-contains (λ (q : Record). not (q.number == change.«drop»)) (live_records (records_of households household)) r kept).0 in
            let held = All-contains (Contains own) (live_records (records_of households household)) r all lives in
            let passed = All-contains (ArePassed rival 80354 uses (fold (sooner_uses rival 80354 uses) None own)) own r from_own held in
            records_still rival 80354 uses (fold (sooner_uses rival 80354 uses) None own) (listed change.add) other
            (All-contains (λ used. IsPassed rival 80354 (fold (sooner_uses rival 80354 uses) None own) used.household) (of_unit uses r.unit)
            (record { unit = double.unit; household = other }) passed (rw same there))
        by_record r same (inr added) there =
            let passed = All-contains (ArePassed rival 80354 uses all_found) (listed change.add) r from_added added in
            All-contains (λ used. IsPassed rival 80354 all_found used.household) (of_unit uses r.unit)
            (record { unit = double.unit; household = other }) passed (rw same there)

    -- a rival is one of the households
    rival_there : (other day : ℕ) → rival other day ≡ true → (1 ≤ other) × (other ≤ length households)
    unfolding is_rival_on
    rival_there other day is =
        let parts = and_parts (not (other == household)) (have_one_unit_on (changed_records (records_of households household) change) (live_records (records_of households other)) day) is in
        let shared = both_have (occupied_unit_on (changed_records (records_of households household) change) day) (occupied_unit_on (live_records (records_of households other)) day) parts.1 in
        let by = occupied_by (live_records (records_of households other)) day shared.0 shared.2 in
        let there = (filter-contains (is_live (records_of households other)) (records_of households other) by.0 by.1).0 in
        in_range other by.0 there
      where
        in_range : (other : ℕ) (r : Record) → Contains (records_of households other) r → (1 ≤ other) × (other ≤ length households)
        in_range other r (k, within, at) = grind (arith, nat_tests, common_steps, within)

    pub found_by_units : all_found ≡ first_double_use households household change
    found_by_units =
        by_found all_found refl (records_found rival 80354 uses (fold (sooner_uses rival 80354 uses) None own) (listed change.add) (records_found rival 80354 uses None own tt))
      where
        by_found : (found : Option DoubleUse) → all_found ≡ found → IsFound rival 80354 all_found → all_found ≡ first_double_use households household change
        by_found None is found =
            is ∙ sym ((no_double_use households household change).1 (λ any double.
            rw is at (none_before any.household any.day double any.day (let by = double.by in omega arith) (rival_is households household change any.household any.day double))))
        by_found (Some first) is found =
            let here : (first.day < 80354) × (rival first.household first.day ≡ true) = rw is at found in
            let range = rival_there first.household first.day here.1 in
            is ∙ sym ((double_use_is_first households household change first).1 (
              double_is households household change first.household first.day range.0 range.1 here.0 here.1,
              λ any double. rw is at (none_before any.household any.day double any.day (let by = double.by in omega arith) (rival_is households household change any.household any.day double)),
            ))

-- ---- the uses of a unit

-- what stands between where those of no lesser and those of a greater unit begin
pub ends_after : (uses : List Use) (unit first end : ℕ) → end ≤ length uses → first ≤ length uses →
    IsPartitionPoint (λ used. nat_lt used.unit unit ≡ true) (λ used. nat_lt used.unit unit ≡ false) uses first →
    IsPartitionPoint (λ used. nat_le used.unit unit ≡ true) (λ used. nat_le used.unit unit ≡ false) uses end → first ≤ end
ends_after uses unit first end within within_first from above = by_order (cases_lt end first)
  where
    by_order : (end < first) ⊎ (first ≤ end) → first ≤ end
    by_order (inr le) = le
    by_order (inl lt) =
        let d : Use = record { unit = 0; household = 0 } in
        let low = from.0 end d (omega arith) lt in
        let high = above.1 end d (omega arith) (omega (arith, lt, within_first)) in
        absurd (grind (arith, nat_tests))

pub between-is : (uses : List Use) (unit first end : ℕ) → end ≤ length uses → first ≤ end →
    IsPartitionPoint (λ used. nat_lt used.unit unit ≡ true) (λ used. nat_lt used.unit unit ≡ false) uses first →
    IsPartitionPoint (λ used. nat_le used.unit unit ≡ true) (λ used. nat_le used.unit unit ≡ false) uses end →
    take (end - first) (drop first uses) ≡ of_unit uses unit
between-is uses unit first end within order from above =
    sym (ap (of_unit_of unit) whole ∙ filter-append is_own (take first uses) (part ++ after) ∙ ap (λ rest. filter is_own (take first uses) ++ rest) (filter-append is_own part after)
    ∙ parts)
  where
    is_own : Use → Bool
    is_own used = used.unit == unit

    of_unit_of : ℕ → List Use → List Use
    of_unit_of n xs = filter is_own xs

    part : List Use
    part = take (end - first) (drop first uses)

    after : List Use
    after = drop (end - first) (drop first uses)

    whole : uses ≡ take first uses ++ (part ++ after)
    whole = sym (ap (λ rest. take first uses ++ rest) (take-append-drop (end - first) (drop first uses)) ∙ take-append-drop first uses)

    parts : filter is_own (take first uses) ++ (filter is_own part ++ filter is_own after) ≡ part
    parts =
        let before_none : filter is_own (take first uses) ≡ [] =
        filter_none is_own (take first uses) (λ k d low. (let long = length-take first uses in let at = get_or-take first uses k d (omega arith) in
        let less = from.0 k d (omega arith) (omega arith) in rw at (grind (arith, nat_tests)))) in
        let after_none : filter is_own after ≡ [] =
        filter_none is_own after (λ k d low. (let long = length-drop first uses in let longer = length-drop (end - first) (drop first uses) in
        let at = get_or-drop (end - first) (drop first uses) k d ∙ get_or-drop first uses (end - first + k) d in
        let greater = above.1 (first + (end - first + k)) d (omega arith) (omega arith) in rw at (grind (arith, nat_tests)))) in
        let own_all : filter is_own part ≡ part =
        filter_all is_own part (λ k d low. (let long = length-drop first uses in let longer = length-take (end - first) (drop first uses) in
        let at = get_or-take (end - first) (drop first uses) k d (omega arith) ∙ get_or-drop first uses k d in
        let not_less = from.1 (first + k) d (omega arith) (omega arith) in
        let not_greater = above.0 (first + k) d (omega arith) (omega arith) in rw at (grind (arith, nat_tests)))) in
        rw (before_none, after_none, own_all) (append-nil part)

-- ---- the searches one after the other

module _ (households : List (List Record)) (household : ℕ) (change : Change) (uses : List Use) (told : TellUses households uses)
    (own : List Record) (all : All (Contains own) (live_records (records_of households household)))
  where
    abbrev by : Option DoubleUse → List Record → Option DoubleUse
    by = fold (sooner_uses (is_rival_on households household change) 80354 uses)

    pub with_one : (added : Record) → change.add ≡ Some added → (of : List Use) (first found : Option DoubleUse) → of ≡ of_unit uses added.unit →
        first ≡ by None own → found ≡ fold (sooner_use (is_rival_on households household change) 80354) first of →
        found ≡ first_double_use households household change
    with_one added is of first found of_is first_is found_is =
        let one : by (by None own) (added ∷ []) ≡ by (by None own) (listed change.add) = rw is refl in
        found_is ∙ rw (of_is, first_is) one ∙ found_by_units households household change uses told own all

    pub with_none : change.add ≡ None → (first : Option DoubleUse) → first ≡ by None own → first ≡ first_double_use households household change
    with_none is first first_is =
        let none : by None own ≡ by (by None own) (listed change.add) = rw is refl in
        first_is ∙ none ∙ found_by_units households household change uses told own all
