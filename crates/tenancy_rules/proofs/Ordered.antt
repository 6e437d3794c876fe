-- What is found among the live records in order is what is found among them as they came.
use Rattle.tenancy_rules.proofs.Words.{◌≡◌, ◌≢◌, ◌∙◌, sym, ap, refl, subst, ℕ, suc, ◌<◌, ◌≤◌, Bool, true, false, List, [], ◌∷◌, ◌++◌, length, get_or, Option, Some, None, arith, ◌==◌, ◌&&◌, not, filter, fold, take, All, Contains, IfSome, IsSomeAnd, nat_tests, common_steps, ne_eqb, false≢true, All-contains, All-filter, filter-append, filter-filter, filter_agree, fold-append, latest-is, latest-among, pairs_order, pairs_order-turned, later, Record, comes_before, latest, is_live, live_records, AreNumbered, comes_after, earliest, without, is_before, append-nil}
use Rattle.std.specs.Prelude.{AllPairs, slice_get}
use Rattle.std.specs.List.Sorted.{IsPartitionPoint, IsPartitionedBy}
use Rattle.std.proofs.Common.{◌-◌, eq-eqb, zero, length-append, ◌⊎◌, inl, inr}
use Rattle.std.proofs.lemmas.Bool.{cases_lt}
use Rattle.std.proofs.lemmas.List.{get_or_append_left, get_or_push, Elements.Contains-get_or}
use Rattle.list_laws.proofs.Filters.{filter_all, filter_none, filter-contains as filter_contains}
use Rattle.row_choice.specs.Latest.{IsRowOrder, IsLatest, latest as latest_by}
use Rattle.record_history.specs.Ordered.{StandInOrder, AreInOrder}
use Rattle.record_history.proofs.ForceLemmas.{numbers_own}
use Rattle.record_history.proofs.OrderedLemmas.{itself}

-- ---- those before a place

pub before_parted : (live : List Record) (day number : ℕ) → StandInOrder live → IsPartitionedBy (is_before day number) live
before_parted live day number in_order i j d le within passed = by_place (cases_lt i j)
  where
    by_place : (i < j) ⊎ (j ≤ i) → is_before day number (get_or live i d) ≡ true
    by_place (inl before) = (let behind = in_order i j d before within in grind (arith, nat_tests))
    by_place (inr from) = (let same : i ≡ j = omega arith in rw same passed)

-- what stands before the point is what passes
pub taken : {X : Type 0} (p : X → Bool) (xs : List X) (k : ℕ) → k ≤ length xs → IsPartitionPoint (λ x. p x ≡ true) (λ x. p x ≡ false) xs k →
    take k xs ≡ filter p xs
taken p [] zero le point = refl
taken p [] (suc k) le point = absurd (omega (arith, le))
taken p (x ∷ xs) zero le point = sym (filter_none p (x ∷ xs) (λ k d within. point.1 k d (omega arith) within))
taken p (x ∷ xs) (suc k) le point =
    rw (point.0 0 x (omega arith) (omega arith))
    (ap (λ rest. x ∷ rest) (taken p xs k (omega (arith, le))
    (λ i d from low. point.0 (suc i) d (omega arith) (omega (arith, low)), λ i d from low. point.1 (suc i) d (omega (arith, from)) (omega (arith, low)))))

-- ---- the last in order

-- the last is the latest
in_order_latest : (best : Record) (xs : List Record) → StandInOrder (best ∷ xs) → slice_get (best ∷ xs) (length xs) ≡ fold (later comes_before) (Some best) xs
in_order_latest best [] in_order = refl
in_order_latest best (x ∷ xs) in_order =
    rw (in_order 0 1 best (omega arith) (omega arith))
    (in_order_latest x xs (λ i j d before within. in_order (suc i) (suc j) d (omega (arith, before)) (omega (arith, within))))

pub last_latest : (records : List Record) → StandInOrder records → slice_get records (length records - 1) ≡ latest records
last_latest [] in_order = refl
last_latest (best ∷ xs) in_order =
    subst (λ place. slice_get (best ∷ xs) place ≡ latest (best ∷ xs)) {x = length xs} (omega arith) (in_order_latest best xs in_order)

-- one that comes after all is the latest
push_latest : (records : List Record) (r : Record) → All (λ earlier. comes_before earlier r ≡ true) records → latest (records ++ r ∷ []) ≡ Some r
push_latest records r after =
    fold-append (later comes_before) None records (r ∷ [])
    ∙ by_best (latest records) (latest-among comes_before (λ earlier. comes_before earlier r ≡ true) None records tt after)
  where
    by_best : (best : Option Record) → IfSome best (λ earlier. comes_before earlier r ≡ true) → later comes_before best r ≡ Some r
    by_best None before = refl
    by_best (Some best) before = rw before refl

-- each that stands before the last stands so to it
pairs_last : (R : Record → Record → Type 0) (earlier : List Record) (held : Record) → AllPairs R (earlier ++ held ∷ []) → All (λ r. R r held) earlier
pairs_last R earlier held pairs k d within =
    rw (get_or_append_left earlier (held ∷ []) d k within, get_or_push earlier held d (length earlier) refl) at
    (pairs k (length earlier) d within (omega (arith, length-append earlier (held ∷ []))))

module _ (records earlier : List Record) (held : Record) (dropped : ℕ) (is : records ≡ earlier ++ held ∷ []) where
  abbrev stays : Record → Bool
  stays r = not (r.number == dropped)

  parts : without dropped records ≡ filter stays earlier ++ filter stays (held ∷ [])
  parts = ap (λ xs. filter stays xs) is ∙ filter-append stays earlier (held ∷ [])

  -- where the last goes the others are left
  pub last_dropped : AllPairs (λ r other. r.number ≢ other.number) records → held.number ≡ dropped → earlier ≡ without dropped records
  last_dropped own goes =
      let others : All (λ r. r.number ≢ held.number) earlier = pairs_last (λ r other. r.number ≢ other.number) earlier held (rw is at own) in
      let all_stay : filter stays earlier ≡ earlier =
      filter_all stays earlier (λ k d within. rw (ne_eqb (get_or earlier k d).number dropped (λ same. others k d within (same ∙ sym goes))) refl)
      in
      let gone : filter stays (held ∷ []) ≡ [] = rw (eq-eqb held.number dropped goes) refl in
      sym (rw (all_stay, gone, append-nil earlier) at parts)

  -- where it stays it is the latest
  pub last_stays : StandInOrder records → held.number ≢ dropped → latest (without dropped records) ≡ Some held
  last_stays in_order other =
      let before : All (λ r. comes_before r held ≡ true) earlier = pairs_last (λ r next. comes_before r next ≡ true) earlier held (rw is at in_order) in
      let kept : filter stays (held ∷ []) ≡ held ∷ [] = rw (ne_eqb held.number dropped other) refl in
      ap latest (rw kept at parts)
      ∙ push_latest (filter stays earlier) held (All-filter stays (λ (r : Record). comes_before r held ≡ true) earlier before)

-- ---- in order and as they came

-- two lists of the same rows have one latest, where no two rows have a place alike
module _ (before : Record → Record → Bool) (order : IsRowOrder before)
    (neither : (one other : Record) → before one other ≡ false → before other one ≡ false → one.number ≡ other.number)
    (passes : Record → Bool) (records ordered : List Record) (own : (a b : Record) → Contains records a → Contains records b → a.number ≡ b.number → a ≡ b)
    (all : All (Contains ordered) records) (only : All (Contains records) ordered)
  where
    abbrev IsAhead : Option Record → Record → Type 0
    IsAhead answer other = passes other ≡ true → IsSomeAnd answer (λ best. before best other ≡ false)

    one_answer : (one other : Option Record) → IsLatest before passes ordered one → IsLatest before passes records other → one ≡ other
    one_answer None None is_one is_other = refl
    one_answer None (Some b) is_one is_other =
        absurd (All-contains (IsAhead None) ordered b is_one.last (All-contains (Contains ordered) records b all is_other.among.0) is_other.among.1)
    one_answer (Some a) None is_one is_other =
        absurd (All-contains (IsAhead None) records a is_other.last (All-contains (Contains records) ordered a only is_one.among.0) is_one.among.1)
    one_answer (Some a) (Some b) is_one is_other =
        let a_there = All-contains (Contains records) ordered a only is_one.among.0 in
        let b_there = All-contains (Contains ordered) records b all is_other.among.0 in
        ap Some (own a b a_there is_other.among.0
        (neither a b (All-contains (IsAhead (Some a)) ordered b is_one.last b_there is_other.among.1)
        (All-contains (IsAhead (Some b)) records a is_other.last a_there is_one.among.1)))

    pub one_latest : latest_by before (filter passes ordered) ≡ latest_by before (filter passes records)
    one_latest = one_answer _ _ (latest-is before passes ordered order) (latest-is before passes records order)

apart : (one other : Record) → comes_before one other ≡ false → comes_before other one ≡ false → one.number ≡ other.number
apart one other e f = grind (arith, nat_tests)

module _ (records live : List Record) (numbered : AreNumbered records) (in_order : AreInOrder (live_records records) live) where
  counted : (r : Record) → Contains (live_records records) r → Contains records r
  counted r has = (filter_contains (is_live records) records r has).0

  own : (a b : Record) → Contains (live_records records) a → Contains (live_records records) b → a.number ≡ b.number → a ≡ b
  own a b one other = numbers_own records numbered a b (counted a one) (counted b other)

  -- those that count have numbers of their own
  pub own_live : AllPairs (λ r other. r.number ≢ other.number) live
  own_live i j d before within same =
      let behind = in_order.in_order i j d before within in
      let among : (r : Record) → Contains live r → Contains (live_records records) r = λ r has. All-contains (Contains (live_records records)) live r in_order.only has in
      let one = among (get_or live i d) (Contains-get_or live i d (omega (arith, before, within))) in
      let other = among (get_or live j d) (Contains-get_or live j d within) in
      let alike : get_or live i d ≡ get_or live j d = own _ _ one other same in
      false≢true (sym (itself (get_or live i d)) ∙ subst (λ next. comes_before (get_or live i d) next ≡ true) (sym alike) behind)

  -- the last before a place, without one of them
  pub latest_kept : (day number dropped : ℕ) →
      latest (without dropped (filter (is_before day number) live)) ≡ latest (filter (is_before day number) (without dropped (live_records records)))
  latest_kept day number dropped =
      ap latest (filter-filter stays begun live ∙ filter_agree (λ r. begun r && stays r) (λ r. stays r && begun r) (λ r. turned (begun r) (stays r)) live)
      ∙ one_latest comes_before (pairs_order (λ (r : Record). r.from) (λ (r : Record). r.number)) apart (λ r. stays r && begun r) (live_records records) live own in_order.all in_order.only
      ∙ ap latest (sym (filter-filter begun stays (live_records records)))
    where
      stays : Record → Bool
      stays r = not (r.number == dropped)

      begun : Record → Bool
      begun r = is_before day number r

      turned : (a b : Bool) → (a && b) ≡ (b && a)
      turned a b = grind (arith, common_steps)

  -- the first that passes, without one of them
  pub earliest_kept : (passes : Record → Bool) (dropped : ℕ) →
      earliest (filter passes (without dropped live)) ≡ earliest (filter passes (without dropped (live_records records)))
  earliest_kept passes dropped =
      ap earliest (filter-filter passes stays live)
      ∙ one_latest comes_after (pairs_order-turned (λ (r : Record). r.from) (λ (r : Record). r.number)) (λ one other e f. apart one other f e) (λ r. stays r && passes r) (live_records records) live
      own in_order.all in_order.only
      ∙ ap earliest (sym (filter-filter passes stays (live_records records)))
    where
      stays : Record → Bool
      stays r = not (r.number == dropped)
