-- Nobody is paid at a closing by a certification that is too old.
use Rattle.std.proofs.Common.{◌≡◌, ◌∙◌, sym, ap, refl, ℕ, ◌+◌, ◌-◌, ◌≤◌, arith, Bool, true, List, Option, Some, None, length, map, filter, nat_le, if◌then◌else◌}
use Rattle.std.specs.{List.range_with_len, Option.option_map}
use Rattle.std.proofs.lemmas.{Bool.le-leb, Bool.ne_eqb, List.FromFn.get_or-map-range_with_len}
use Rattle.days_core.specs.Calendar.{month_of, last_of as last_day_of}
use Rattle.record_history.specs.{declared.records.Record.Record, Records.is_live, Records.live_records}
use Rattle.record_history.proofs.ForceLemmas.{numbers_own}
use Rattle.due_dates.specs.{Overdue.is_overdue, Rightful.next_anniversary}
use Rattle.tenancy_rules.specs.Order.{earliest}
use Rattle.voucher_core.specs.Certified.{certified_amount}
use Rattle.office_step.specs.{declared.refusal.Refusal.Refusal, Known.Known, Known.own_in, Against.all_overdue}
use Rattle.office_step.specs.Refusals.{base, overdue_day, household_overdue, first_household, is_unpaid}
use Rattle.office_step.specs.plain.{Counting.AreInTurn, Counting.AllInTurn, Counting.Counts}
use Rattle.office_step.proofs.{Passed.none_at, Exactly.Counting.counting, Exactly.Counting.first_none, Exactly.Closing.last_by}
use Rattle.office_laws.specs.Certifies.{IsPaidOnOld, NobodyIsOverdue}

none_of_household : (refused : ℕ → Option Refusal) (count household : ℕ) → first_household refused count ≡ None → 1 ≤ household → household ≤ count → refused household ≡ None
none_of_household refused count household none least most =
    let its = get_or-map-range_with_len refused 1 count (household - 1) household None in
    grind (arith, none_at (map refused (range_with_len 1 count)) (household - 1) none, its)

module _ (own : List Record) (its : AreInTurn own) (month household : ℕ) (free : household_overdue own month household ≡ None) (old : IsPaidOnOld own month) where
  abbrev begun : List Record
  begun = filter (λ r. nat_le r.from (last_day_of month)) (live_records own)

  last_is : base begun ≡ Some old.last
  last_is = (last_by own its month old.last).1 old.certified

  late : is_overdue old.last.from month ≡ true
  late = le-leb (month_of old.last.from + 15) month old.too_old

  told : (opening : Record) → earliest (live_records own) ≡ Some opening → household_overdue own month household ≡ Some (Refusal.Overdue household (next_anniversary opening.from old.last.from))
  unfolding is_unpaid
  told opening opens =
      ap (λ (b : Bool). if b then None else option_map (λ anniversary. Refusal.Overdue household anniversary) (overdue_day month (earliest (live_records own)) (base begun)))
      (ne_eqb (certified_amount own month) 0 old.paid)
      ∙ ap (λ (o : Option Record). option_map (λ anniversary. Refusal.Overdue household anniversary) (overdue_day month o (base begun))) opens
      ∙ ap (λ (o : Option Record). option_map (λ anniversary. Refusal.Overdue household anniversary) (overdue_day month (Some opening) o)) last_is
      ∙ ap (λ (b : Bool). option_map (λ anniversary. Refusal.Overdue household anniversary) (if b then Some (next_anniversary opening.from old.last.from) else None)) late

  none_old : ⊥
  none_old = by_opening (earliest (live_records own)) refl
    where
      by_opening : (opening : Option Record) → earliest (live_records own) ≡ opening → ⊥
      by_opening None none =
          (first_none own (numbers_own own its.numbered) (is_live own) (Counts own) (counting own)).0 none old.last old.certified.one.counts
      by_opening (Some opening) opens =
          let both : None ≡ Some (Refusal.Overdue household (next_anniversary opening.from old.last.from)) = sym free ∙ told opening opens in
          cc

pub nobody_is_overdue : (known : Known) → AllInTurn known → (month : ℕ) → all_overdue known month ≡ None → NobodyIsOverdue known month
nobody_is_overdue known kept month free household least most old =
    none_old (own_in known household) (kept household) month household
    (none_of_household (λ household. household_overdue (own_in known household) month household) (length known.households) household free least most) old
