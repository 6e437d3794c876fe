-- Where no rents are due for a closing, no household has stale rents on a day from the plan's first through the month's last.
use Rattle.std.proofs.Common.{◌≡◌, refl, ℕ, ◌-◌, ◌≤◌, inl, inr, arith, Bool, true, false, Option, Some, None, length}
use Rattle.std.specs.Prelude.{map, option_and_then}
use Rattle.std.specs.{List.range_with_len, Option.option_map, Option.option_map_or}
use Rattle.std.proofs.lemmas.{Grind.common_steps, List.FromFn.get_or-map-range_with_len}
use Rattle.days_core.specs.Calendar.{last_of as last_day_of}
use Rattle.record_history.specs.{declared.records.Record.Record, Records.in_force}
use Rattle.record_history.proofs.Kept.{records_cases}
use Rattle.due_dates.specs.{Least.IsLeast, Stale.is_rent_stale_on, Stale.rent_due_day_of}
use Rattle.due_dates.proofs.LeastLemmas.{least_that-says}
use Rattle.office_step.specs.{declared.refusal.Refusal.Refusal, Known.Known, Known.own_in, Refusals.household_rent_due, Refusals.first_household, Against.plan_day, Against.rents_due}
use Rattle.office_step.proofs.Passed.{none_at}

-- where nothing stands against the households, nothing does against one of them
none_of_household : (refused : ℕ → Option Refusal) (count household : ℕ) → first_household refused count ≡ None → 1 ≤ household → household ≤ count → refused household ≡ None
none_of_household refused count household none least most =
    let its = get_or-map-range_with_len refused 1 count (household - 1) household None in
    grind (arith, none_at (map refused (range_with_len 1 count)) (household - 1) none, its)

-- a day on which rents are due is one on which a record is in force
none_due : (known : Known) (first last household : ℕ) → household_rent_due (own_in known household) known.units known.rents first last household ≡ None →
    (day : ℕ) → first ≤ day → day ≤ last → is_rent_stale_on (own_in known household) known.units known.rents day ≡ false
none_due known first last household =
    by_day (rent_due_day_of (own_in known household) known.units known.rents first last)
    (least_that-says (is_rent_stale_on (own_in known household) known.units known.rents) first last)
  where
    not_due : {R : Type 0} (is_stale : R → Bool) (why : R → Refusal) (held : Option R) → option_map_or is_stale held false ≡ true → option_map why held ≡ None → ⊥
    not_due is_stale why held stale none = grind (arith, common_steps, stale, none)

    by_day : (found : Option ℕ) → IsLeast (is_rent_stale_on (own_in known household) known.units known.rents) first last found →
        option_and_then (λ (day : ℕ). option_map (λ (r : Record). Refusal.RentDue household r.number day) (in_force (own_in known household) day)) found ≡ None →
        (day : ℕ) → first ≤ day → day ≤ last → is_rent_stale_on (own_in known household) known.units known.rents day ≡ false
    by_day None least none = least
    by_day (Some day) least none = absurd (not_due _ _ (in_force (own_in known household) day) least.this none)

-- so no record in force is certified by other rents than its unit has
pub none_stale : (known : Known) (month : ℕ) → rents_due known month ≡ None →
    (household day : ℕ) → plan_day known ≤ day → day ≤ last_day_of month →
    is_rent_stale_on (own_in known household) known.units known.rents day ≡ false
none_stale known month none household day from to = elim (records_cases known.households household) [
  | inl empty ↦ rw empty refl
  | inr there ↦ none_due known (plan_day known) (last_day_of month) household
      (none_of_household (λ household. household_rent_due (own_in known household) known.units known.rents (plan_day known) (last_day_of month) household)
      (length known.households) household none there.0 there.1) day from to
]
