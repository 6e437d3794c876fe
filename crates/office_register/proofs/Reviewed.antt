-- What a closing found of stale rents holds on until a plan, a unit or rents are given.
use Rattle.office_register.proofs.Words.{◌≡◌, ◌∙◌, refl, subst, ap, ℕ, ◌+◌, ◌-◌, ◌≤◌, ◌<◌, List, [], ◌∷◌, ◌++◌, Option, Some, None, arith, get_or, max, IfSome, IfSome_then, set_past, nat_tests, common_steps, Record, records_of, with_record, RentRow, Known, with_household, with_further}
use Rattle.std.proofs.lemmas.List.{get_or-set_same, get_or-set_other, Sums.fold-append}
use Rattle.std.specs.Prelude.{zero, suc}
use Rattle.days_core.specs.Calendar.{last_of}
use Rattle.record_history.specs.Records.{newest_act}
use Rattle.due_dates.specs.{Stale.is_rent_stale_on}
use Rattle.due_dates.proofs.{LeastLemmas.least_that-from, StaleLemmas.stale_behind}
use Rattle.book_rows.specs.declared.closings.CloseAct.{CloseAct}
use Rattle.office_refusals.specs.Below.office_step.{Known.own_in, Against.plan_day, Against.rents_due}
use Rattle.office_refusals.proofs.Below.office_step.NoneStale.{none_stale}
use Rattle.office_register.specs.Registered.{IsReviewed, EndsBefore, rent_due_from}
use Rattle.office_register.specs.declared.register.Reviewed.{Reviewed}

-- ---- records that are no newer than an act

-- the newest act is no earlier than that of the last record
newest_more : (records : List Record) (r : Record) → r.act ≤ newest_act (records ++ r ∷ [])
newest_more records r = rw (fold-append (λ most (r : Record). max most r.act) 0 records (r ∷ [])) (omega arith)

-- a household of which none is has the records that it had before another came
pub no_newer : (households : List (List Record)) (r : Record) (act household : ℕ) → act < r.act →
    newest_act (records_of (with_record households r) household) ≤ act →
    records_of (with_record households r) household ≡ records_of households household
no_newer households r act household later by =
    grind (arith, nat_tests, common_steps, by, newest_more (records_of households r.household) r, get_or-set_same, get_or-set_other, set_past)

-- a list for the household that comes next holds no records
pub none_yet : (households : List (List Record)) (household : ℕ) → records_of (households ++ [] ∷ []) household ≡ records_of households household
none_yet households household = rw (at_place households (household - 1)) refl
  where
    at_place : (households : List (List Record)) (place : ℕ) → get_or (households ++ [] ∷ []) place [] ≡ get_or households place []
    at_place [] zero = refl
    at_place [] (suc place) = refl
    at_place (own ∷ households) zero = refl
    at_place (own ∷ households) (suc place) = at_place households place

-- ---- after one more act

module _ (known : Known) (reviewed : Option Reviewed) (is : IfSome reviewed (IsReviewed known)) where
  -- that gives no plan, unit or rents
  pub reviewed_with : (after : Known) → known.count ≤ after.count → plan_day after ≡ plan_day known → after.units ≡ known.units → after.rents ≡ known.rents →
      ((act household : ℕ) → act ≤ known.count → newest_act (own_in after household) ≤ act → own_in after household ≡ own_in known household) →
      IfSome reviewed (IsReviewed after)
  reviewed_with after count first units rents own = IfSome_then reviewed is (λ looked was. record {
    act = omega (arith, was.act, count);
    first = rw first was.first;
    none_stale = λ household old day from before.
        (let same : own_in after household ≡ own_in known household = own looked.act household was.act old in
        (λ i. is_rent_stale_on (same i) (units i) (rents i) day)
        ∙ was.none_stale household (subst (λ (records : List Record). newest_act records ≤ looked.act) same old) day (rw (← first) from) before);
  })

  -- which changes no household's records
  pub reviewed_alike : (after : Known) → known.count ≤ after.count → plan_day after ≡ plan_day known → after.units ≡ known.units → after.rents ≡ known.rents →
      after.households ≡ known.households → IfSome reviewed (IsReviewed after)
  reviewed_alike after count first units rents households =
      reviewed_with after count first units rents (λ act household by old. ap (λ (lists : List (List Record)). records_of lists household) households)

  pub reviewed_further : (r : Record) (eligible : ℕ) → r.act ≡ known.count + 1 → IfSome reviewed (IsReviewed (with_further known r eligible))
  reviewed_further r eligible act =
      reviewed_with (with_further known r eligible) (omega arith) refl refl refl (λ seen household by old.
      no_newer known.households r seen household (omega (arith, act, by)) old)

  pub reviewed_household : (name : List ℕ) (r : Record) (eligible : ℕ) → r.act ≡ known.count + 1 → IfSome reviewed (IsReviewed (with_household known name r eligible))
  reviewed_household name r eligible act =
      reviewed_with (with_household known name r eligible) (omega arith) refl refl refl (λ seen household by old.
      no_newer (known.households ++ [] ∷ []) r seen household (omega (arith, act, by)) old ∙ none_yet known.households household)

  -- that gives rents from a day on which the review has not come to
  pub reviewed_rents : (row : RentRow) → IfSome reviewed (EndsBefore known row.from) →
      IfSome reviewed (IsReviewed (record known { count = known.count + 1; rents = known.rents ++ row ∷ []; eligible = known.eligible ++ 0 ∷ [] }))
  reviewed_rents row ends = by_review reviewed is ends
    where
      by_review : (reviewed : Option Reviewed) → IfSome reviewed (IsReviewed known) → IfSome reviewed (EndsBefore known row.from) →
          IfSome reviewed (IsReviewed (record known { count = known.count + 1; rents = known.rents ++ row ∷ []; eligible = known.eligible ++ 0 ∷ [] }))
      by_review None is ends = tt
      by_review (Some looked) is ends = record {
        act = omega (arith, is.act);
        first = is.first;
        none_stale = λ household old day from before.
            stale_behind (own_in known household) known.units known.rents row day (ends day from before) ∙ is.none_stale household old day from before;
      }

-- the closing that was accepted finds no stale rents before the day
pub reviewed_now : (known : Known) (close : CloseAct) (next : ℕ) → rents_due known close.month ≡ None → plan_day known ≤ next →
    ((day : ℕ) → day < next → plan_day known ≤ day → day ≤ last_of close.month) →
    IsReviewed (record known { count = known.count + 1; eligible = known.eligible ++ 0 ∷ []; closing = Some (record { month = close.month; act = known.count + 1 }) }) (record { act = known.count + 1; next = next })
reviewed_now known close next none from behind = record {
  act = omega arith;
  first = from;
  none_stale = λ household old day first before. none_stale known close.month none household day first (behind day before first);
}

-- what is looked for from the plan's first day on is found from the day to which a review has come
pub found_behind : (known : Known) (reviewed : Reviewed) → IsReviewed known reviewed → (household : ℕ) → newest_act (own_in known household) ≤ reviewed.act →
    (last : ℕ) → rent_due_from known household reviewed.next last ≡ rent_due_from known household (plan_day known) last
found_behind known reviewed is household old last =
    least_that-from (is_rent_stale_on (own_in known household) known.units known.rents) (plan_day known) reviewed.next last is.first (is.none_stale household old)
