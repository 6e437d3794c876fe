-- The least day on which rents are stale is found among the first day and the beginnings.
use Rattle.std.specs.List.Sorted.{IsNonDecreasingBy}
use Rattle.std.proofs.Common.{◌⊎◌, drop, length, get_or}
use Rattle.record_history.specs.{declared.records.Record.Record, Ordered.StandInOrder}
use Rattle.due_dates.proofs.Words.{◌≡◌, ◌∙◌, sym, refl, ℕ, ◌+◌, ◌-◌, Bool, List, [], ◌∷◌, ◌++◌, Option, None, ap, arith, ◌<◌, ◌≤◌, inl, inr, zero, suc, true, map, cases_lt, filter, fold, nat_le, nat_lt, ◌&&◌, filter_agree, later, earliest, is_within, ChangesAtBeginnings, first_day-is, least_that, with_day, with_days, nat_tests, fold-append, common_steps}

-- a day that doesn't pass is passed over
with_days-filter : (passes : ℕ → Bool) (best : Option ℕ) (days : List ℕ) →
    with_days passes best days ≡ fold (later (λ day other. nat_lt other day)) best (filter passes days)
with_days-filter passes best [] = refl
with_days-filter passes best (day ∷ days) =
    grind (arith, common_steps, with_days-filter passes best days, with_days-filter passes (later (λ day other. nat_lt other day) best day) days)

-- the two ways to say that a day lies in a span
same_span : (first last day : ℕ) → is_within first (last + 1 - first) day ≡ (nat_le first day && nat_le day last)
same_span first last day = grind (arith, nat_tests)

-- where the test changes only at beginnings, looking at the first day and at the beginnings finds the least that passes
pub with_days-least : (passes : ℕ → Bool) (first last : ℕ) (days more : List ℕ) → ChangesAtBeginnings passes (days ++ more) →
    with_days (λ day. (nat_le first day && nat_le day last) && passes day)
    (with_days (λ day. (nat_le first day && nat_le day last) && passes day) (with_day (λ day. (nat_le first day && nat_le day last) && passes day) None first) days) more
    ≡ least_that passes first last
unfolding least_that
with_days-least passes first last days more changes =
    let counts : ℕ → Bool = λ day. (nat_le first day && nat_le day last) && passes day in
    let joined = fold-append (with_day counts) (with_day counts None first) days more in
    let found = with_days-filter counts None (first ∷ days ++ more) in
    let agree = filter_agree (λ day. is_within first (last + 1 - first) day && passes day) counts
    (λ day. ap (λ (test : Bool). test && passes day) (same_span first last day)) (first ∷ days ++ more)
    in
    let first_is = first_day-is passes (days ++ more) first (last + 1 - first) changes in
    sym joined ∙ found ∙ ap earliest (sym agree) ∙ sym first_is

-- records in order begin one after another
pub firsts_rise : (live : List Record) → StandInOrder live → IsNonDecreasingBy (λ (r : Record). r.from) live
firsts_rise live in_order i j d le within = by_place (cases_lt i j)
  where
    by_place : (i < j) ⊎ (j ≤ i) → (get_or live i d).from ≤ (get_or live j d).from
    by_place (inl before) = (let behind = in_order i j d before within in grind (arith, nat_tests))
    by_place (inr from) = (let same : i ≡ j = omega arith in rw same (omega arith))

-- records that begin before the span need no look
pub from_span : (passes : ℕ → Bool) (first last : ℕ) (live : List Record) (early : ℕ) (best : Option ℕ) →
    ((k : ℕ) (d : Record) → k < early → nat_lt (get_or live k d).from first ≡ true) → early ≤ length live →
    with_days (λ day. (nat_le first day && nat_le day last) && passes day) best (map (λ (r : Record). r.from) (drop early live))
    ≡ with_days (λ day. (nat_le first day && nat_le day last) && passes day) best (map (λ (r : Record). r.from) live)
from_span passes first last live zero best before within = refl
from_span passes first last [] (suc early) best before within = refl
from_span passes first last (r ∷ live) (suc early) best before within =
    grind (arith, nat_tests, common_steps, before 0 r (omega arith), from_span passes first last live early best (λ k d low. before (suc k) d (omega arith)) (omega arith))
