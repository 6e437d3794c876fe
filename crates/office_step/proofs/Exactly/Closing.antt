-- 22 and 23: what a closing waits for.
use Rattle.std.proofs.Common.{◌≡◌, ◌∙◌, sym, ap, refl, subst, ℕ, zero, suc, ◌+◌, ◌<◌, ◌≤◌, ◌⊎◌, inl, inr, arith, Bool, true, false, List, Option, Some, None, ◌&&◌, filter, length, if◌then◌else◌, nat_le, map, ◌==◌}
use Rattle.std.specs.Prelude.{◌↔◌, Contains, option_and_then}
use Rattle.std.specs.{List.range_with_len, Option.option_map, Option.option_map_or}
use Rattle.std.proofs.lemmas.{Bool.false≢true, Bool.false_from_ne_true, Bool.leb-true, Bool.le-leb, Bool.and_parts, Bool.and_from, Bool.eqb-false, Bool.ne_eqb, Option.same_Some, Option.cond_some}
use Rattle.list_laws.proofs.Filters.{filter-filter}
use Rattle.days_core.specs.{Calendar.month_of, Calendar.last_of as last_day_of, Calendar.first_of as first_day_of, OfficeDays.last_office_day}
use Rattle.record_history.specs.{declared.records.Kind.Kind, declared.records.Record.Record, Records.is_live, Records.live_records, Records.latest, Records.in_force}
use Rattle.record_history.proofs.ForceLemmas.{numbers_own, one_now}
use Rattle.rent_table.specs.{declared.plan.Plan.Plan, Table.RentActsRise}
use Rattle.rent_table.proofs.StandingLemmas.{row_sets_rents}
use Rattle.due_dates.specs.{Overdue.is_overdue, Law.IsNextAnniversary, Law.IsByOtherRents, Rightful.next_anniversary, Stale.is_rent_stale_on, Stale.rent_due_day_of, Least.IsLeast, Least.IsLeastOne}
use Rattle.due_dates.proofs.{RightfulLemmas.is_next_anniversary, LeastLemmas.least_that-says, LeastLemmas.least_that-is, OtherRents.stale_by_facts}
use Rattle.tenancy_rules.specs.Order.{earliest}
use Rattle.voucher_core.specs.Certified.{certified_amount}
use Rattle.office_step.specs.{declared.refusal.Refusal.Refusal, Known.Known, Known.UnitsAreNumbered, Known.own_in, Households.begins_year, Against.plan_day, Against.rents_due, Against.all_overdue}
use Rattle.office_step.specs.Refusals.{first_of, first_household, base, overdue_day, household_overdue, household_rent_due, is_unpaid}
use Rattle.office_step.proofs.Exactly.{Options.and_then-some, Options.and_then-from, Options.map-some, Options.map-from, Options.first_two, Options.first_here, Options.first_later, Options.none_stands, Options.stands_none, Numbered.found_by_number, Counting.counting, Counting.last_one, Counting.first_one}
use Rattle.office_step.specs.plain.Counting.{AreInTurn, AllInTurn, Counts, IsFirstOf, IsLastOf}
use Rattle.office_step.specs.plain.Closing.{IsLeastOf, HasOldRents, IsPlanDay, OwesGross, RentDueIsPlain, BeginsYearBy, LacksAnnual, OverdueIsPlain}

-- ---- the least household

module _ (refused : ℕ → Option Refusal) (IsTold : ℕ → Refusal → Type 0) (plain : (household : ℕ) (refusal : Refusal) → (refused household ≡ Some refusal) ↔ IsTold household refusal)
    (refusal : Refusal) where
  -- of so many households from one on
  pub record IsLeastFrom (from count : ℕ) (household : ℕ) : Type 0 where
    pub from_first : from ≤ household
    pub to_last : household < from + count
    pub this : IsTold household refusal
    pub none_before : (lesser : ℕ) (other : Refusal) → from ≤ lesser → lesser < household → ¬ IsTold lesser other

  least-from : (from count : ℕ) → first_of (map refused (range_with_len from count)) ≡ Some refusal → (household : ℕ) × IsLeastFrom from count household
  least-from from zero is = absurd (let none : None ≡ Some refusal = is in cc)
  least-from from (suc count) is = by_first (first_two (refused from) (map refused (range_with_len (from + 1) count)) refusal is) (least-from (from + 1) count)
    where
      by_first : (refused from ≡ Some refusal) ⊎ ((refused from ≡ None) × (first_of (map refused (range_with_len (from + 1) count)) ≡ Some refusal)) →
          (first_of (map refused (range_with_len (from + 1) count)) ≡ Some refusal → (household : ℕ) × IsLeastFrom (from + 1) count household) →
          (household : ℕ) × IsLeastFrom from (suc count) household
      by_first (inl first) later =
          (from, record { from_first = omega arith; to_last = omega arith; this = (plain from refusal).0 first; none_before = λ lesser other low high. absurd (omega (arith, low, high)) })
      by_first (inr (none, more)) later = by_later (later more)
        where
          by_later : (household : ℕ) × IsLeastFrom (from + 1) count household → (household : ℕ) × IsLeastFrom from (suc count) household
          by_later (household, least) = (
            household,
            record {
              from_first = omega (arith, least.from_first);
              to_last = omega (arith, least.to_last);
              this = least.this;
              none_before = λ lesser other low high told. by_place lesser other low high told (cases lesser low);
            },
          )
            where
              cases : (lesser : ℕ) → from ≤ lesser → (lesser ≡ from) ⊎ (from + 1 ≤ lesser)
              cases lesser low = grind arith

              by_place : (lesser : ℕ) (other : Refusal) → from ≤ lesser → lesser < household → IsTold lesser other → (lesser ≡ from) ⊎ (from + 1 ≤ lesser) → ⊥
              by_place lesser other low high told (inl same) =
                  none_stands (refused from) (IsTold from) (plain from) none other (subst (λ (n : ℕ). IsTold n other) same told)
              by_place lesser other low high told (inr more) = least.none_before lesser other more high told

  from-least : (from count household : ℕ) → IsLeastFrom from count household → first_of (map refused (range_with_len from count)) ≡ Some refusal
  from-least from zero household least = absurd (omega (arith, least.from_first, least.to_last))
  from-least from (suc count) household least = by_place (cases household least.from_first) (from-least (from + 1) count household)
    where
      cases : (household : ℕ) → from ≤ household → (household ≡ from) ⊎ (from + 1 ≤ household)
      cases household low = grind arith

      by_place : (household ≡ from) ⊎ (from + 1 ≤ household) → (IsLeastFrom (from + 1) count household → first_of (map refused (range_with_len (from + 1) count)) ≡ Some refusal) →
          first_of (map refused (range_with_len from (suc count))) ≡ Some refusal
      by_place (inl same) later =
          first_here (refused from) (map refused (range_with_len (from + 1) count)) refusal ((plain from refusal).1 (subst (λ (n : ℕ). IsTold n refusal) same least.this))
      by_place (inr more) later =
          first_later (refused from) (map refused (range_with_len (from + 1) count)) refusal
          (stands_none (refused from) (IsTold from) (plain from) (λ other told. least.none_before from other (omega arith) (omega (arith, more)) told))
          (later (record {
            from_first = more;
            to_last = omega (arith, least.to_last);
            this = least.this;
            none_before = λ lesser other low high. least.none_before lesser other (omega (arith, low)) high;
          }))

  pub least_household : (count : ℕ) → (first_household refused count ≡ Some refusal) ↔ ((household : ℕ) × IsLeastOf IsTold count household refusal)
  least_household count = (
    λ is. (let least = least-from 1 count is in (
      least.0,
      record {
        from_first = least.1.from_first;
        to_last = omega (arith, least.1.to_last);
        this = least.1.this;
        none_before = least.1.none_before;
      },
    )),
    λ (household, least). from-least 1 count household (record {
      from_first = least.from_first;
      to_last = omega (arith, least.to_last);
      this = least.this;
      none_before = least.none_before;
    }),
  )

-- ---- 23: a missing annual

pub begins_kind : (r : Record) → begins_year r.kind ≡ true → (r.kind ≡ Kind.MI) ⊎ ((r.kind ≡ Kind.IC) ⊎ (r.kind ≡ Kind.AR))
begins_kind r is = by_kind r.kind refl is
  where
    by_kind : (kind : Kind) → r.kind ≡ kind → begins_year kind ≡ true → (r.kind ≡ Kind.MI) ⊎ ((r.kind ≡ Kind.IC) ⊎ (r.kind ≡ Kind.AR))
    by_kind Kind.MI same is = inl same
    by_kind Kind.IC same is = inr (inl same)
    by_kind Kind.AR same is = inr (inr same)
    by_kind _ same is = absurd (false≢true is)

pub kind_begins : (r : Record) → (r.kind ≡ Kind.MI) ⊎ ((r.kind ≡ Kind.IC) ⊎ (r.kind ≡ Kind.AR)) → begins_year r.kind ≡ true
kind_begins r (inl is) = ap begins_year is
kind_begins r (inr (inl is)) = ap begins_year is
kind_begins r (inr (inr is)) = ap begins_year is

-- there is one next anniversary
pub one_anniversary : (opening after day : ℕ) → after ≤ last_office_day → IsNextAnniversary opening after day → next_anniversary opening after ≡ day
one_anniversary opening after day by next =
    let its = is_next_anniversary opening after by in
    omega (arith, its.none_between day next.anniversary next.later, next.none_between (next_anniversary opening after) its.anniversary its.later)

module _ (own : List Record) (kept : AreInTurn own) (month : ℕ) where
  abbrev begins_by : Record → Bool
  begins_by r = (is_live own r && nat_le r.from (last_day_of month)) && begins_year r.kind

  exactly : (r : Record) → (Contains own r × (begins_by r ≡ true)) ↔ BeginsYearBy own (last_day_of month) r
  exactly r = (
    λ (held, passes).
        (let parts = and_parts (is_live own r && nat_le r.from (last_day_of month)) (begins_year r.kind) passes in
        let more = and_parts (is_live own r) (nat_le r.from (last_day_of month)) parts.0 in
        record { counts = (counting own r).0 (held, more.0); begins_year = begins_kind r parts.1; by = leb-true r.from (last_day_of month) more.1 }),
    λ at. (let live = (counting own r).1 at.counts in (
      live.0,
      and_from (is_live own r && nat_le r.from (last_day_of month)) (begins_year r.kind)
          (and_from (is_live own r) (nat_le r.from (last_day_of month)) live.1 (le-leb r.from (last_day_of month) at.by)) (kind_begins r at.begins_year),
    )),
  )

  -- the last certification that begins a year
  base_is : base (filter (λ r. nat_le r.from (last_day_of month)) (live_records own)) ≡ latest (filter begins_by own)
  base_is =
      ap latest (ap (filter (λ r. begins_year r.kind)) (filter-filter (λ r. nat_le r.from (last_day_of month)) (is_live own) own)
      ∙ filter-filter (λ r. begins_year r.kind) (λ r. is_live own r && nat_le r.from (last_day_of month)) own)

  own_numbers : (a b : Record) → Contains own a → Contains own b → a.number ≡ b.number → a ≡ b
  own_numbers = numbers_own own kept.numbered

  pub last_by : (r : Record) → (base (filter (λ r. nat_le r.from (last_day_of month)) (live_records own)) ≡ Some r) ↔ IsLastOf (BeginsYearBy own (last_day_of month)) r
  last_by r = (
    λ is. (last_one own own_numbers begins_by (BeginsYearBy own (last_day_of month)) exactly r).0 (sym base_is ∙ is),
    λ at. base_is ∙ (last_one own own_numbers begins_by (BeginsYearBy own (last_day_of month)) exactly r).1 at,
  )

  pub opening_is : (r : Record) → (earliest (live_records own) ≡ Some r) ↔ IsFirstOf (Counts own) r
  opening_is r = first_one own own_numbers (is_live own) (Counts own) (counting own) r

  begun_by_2099 : (r : Record) → Contains own r → r.from ≤ last_office_day
  begun_by_2099 r held = kept.begun r held

module _ (known : Known) (kept : AllInTurn known) (month household : ℕ) (refusal : Refusal) where
  lacks : household_overdue (own_in known household) month household ≡ Some refusal → LacksAnnual known month household refusal
  unfolding is_unpaid
  lacks is = by_amount (certified_amount (own_in known household) month == 0) refl is
    where
      by_amount : (unpaid : Bool) → (certified_amount (own_in known household) month == 0) ≡ unpaid →
          (if unpaid then None else option_map (λ anniversary. Refusal.Overdue household anniversary)
          (overdue_day month (earliest (live_records (own_in known household))) (base (filter (λ r. nat_le r.from (last_day_of month)) (live_records (own_in known household)))))) ≡ Some refusal →
          LacksAnnual known month household refusal
      by_amount true amount is = absurd (cc)
      by_amount false amount is =
          let own : List Record = own_in known household in
          let its : AreInTurn own = kept household in
          let told = map-some (λ (anniversary : ℕ). Refusal.Overdue household anniversary) (overdue_day month (earliest (live_records own)) (base (filter (λ r. nat_le r.from (last_day_of month)) (live_records own)))) refusal is in
          let opens = and_then-some (λ (r : Record). option_and_then (λ last. if is_overdue last.from month then Some (next_anniversary r.from last.from) else None) (base (filter (λ r. nat_le r.from (last_day_of month)) (live_records own)))) (earliest (live_records own)) told.0 told.1 in
          let opening : Record = opens.0 in
          let certified = and_then-some (λ (last : Record). if is_overdue last.from month then Some (next_anniversary opening.from last.from) else None) (base (filter (λ r. nat_le r.from (last_day_of month)) (live_records own))) told.0 opens.2 in
          let last : Record = certified.0 in
          let late = cond_some (is_overdue last.from month) (next_anniversary opening.from last.from) told.0 certified.2 in
          let last_is = (last_by own its month last).0 certified.1 in record {
            opening = opening;
            last = last;
            anniversary = told.0;
            told = told.2;
            paid = eqb-false (certified_amount own month) 0 amount;
            opens = (opening_is own its month opening).0 opens.1;
            certified = last_is;
            too_old = leb-true (month_of last.from + 15) month late.0;
            next = subst (λ (day : ℕ). IsNextAnniversary opening.from last.from day) late.1 (is_next_anniversary opening.from last.from (begun_by_2099 own its month last last_is.one.counts.held));
          }

  is_lacking : LacksAnnual known month household refusal → household_overdue (own_in known household) month household ≡ Some refusal
  unfolding is_unpaid
  is_lacking at =
      let own : List Record = own_in known household in
      let its : AreInTurn own = kept household in
      let day = one_anniversary at.opening.from at.last.from at.anniversary (begun_by_2099 own its month at.last at.certified.one.counts.held) at.next in
      let found = and_then-from (λ (r : Record). option_and_then (λ last. if is_overdue last.from month then Some (next_anniversary r.from last.from) else None) (base (filter (λ r. nat_le r.from (last_day_of month)) (live_records own)))) (earliest (live_records own)) at.opening at.anniversary
      ((opening_is own its month at.opening).1 at.opens)
      (and_then-from (λ (last : Record). if is_overdue last.from month then Some (next_anniversary at.opening.from last.from) else None) (base (filter (λ r. nat_le r.from (last_day_of month)) (live_records own))) at.last at.anniversary
      ((last_by own its month at.last).1 at.certified)
      (ap (λ (b : Bool). if b then Some (next_anniversary at.opening.from at.last.from) else None) (le-leb (month_of at.last.from + 15) month at.too_old) ∙ ap Some day)) in
      ap (λ (b : Bool). if b then None else option_map (λ anniversary. Refusal.Overdue household anniversary)
      (overdue_day month (earliest (live_records own)) (base (filter (λ r. nat_le r.from (last_day_of month)) (live_records own))))) (ne_eqb (certified_amount own month) 0 at.paid)
      ∙ map-from (λ (anniversary : ℕ). Refusal.Overdue household anniversary) (overdue_day month (earliest (live_records own)) (base (filter (λ r. nat_le r.from (last_day_of month)) (live_records own)))) at.anniversary refusal found at.told

pub overdue_is_plain : OverdueIsPlain
overdue_is_plain about refusal kept = (
  λ is. (let closes = and_then-some (all_overdue about.known) about.month refusal is in
      let month : ℕ = closes.0 in
      let least = (least_household (λ household. household_overdue (own_in about.known household) month household) (LacksAnnual about.known month) (plainly month) refusal (length about.known.households)).0 closes.2 in
      record { month = month; household = least.0; closes = closes.1; least = least.1 }),
  λ at. and_then-from (all_overdue about.known) about.month at.month refusal at.closes
      ((least_household (λ household. household_overdue (own_in about.known household) at.month household) (LacksAnnual about.known at.month) (plainly at.month) refusal (length about.known.households)).1 (at.household, at.least)),
)
  where
    plainly : (month household : ℕ) (refusal : Refusal) → (household_overdue (own_in about.known household) month household ≡ Some refusal) ↔ LacksAnnual about.known month household refusal
    plainly month household refusal = (lacks about.known kept month household refusal, is_lacking about.known kept month household refusal)

-- ---- 22: old rents

module _ (known : Known) (own : List Record) (its : AreInTurn own) (numbered : UnitsAreNumbered known.units) (rise : RentActsRise known.rents) (day : ℕ) where
  pub old : is_rent_stale_on own known.units known.rents day ≡ true → (r : Record) → in_force own day ≡ Some r → HasOldRents known own day r
  old stale r stands =
      let by : IsByOtherRents own known.units known.rents day = (stale_by_facts own known.units known.rents day).0 stale in
      let same : by.certified ≡ r = same_Some by.certified r (sym by.stands ∙ stands) in
      let there = (found_by_number known.units by.certified.unit by.unit numbered).0 by.of_unit in
      let sets = (row_sets_rents known.rents by.unit.group day by.rents rise).0 by.on_day in
      subst (λ (r : Record). HasOldRents known own day r) same (record {
        unit = by.unit;
        row = sets.0;
        in_force = ((one_now own day its.numbered).some by.certified).0 by.stands;
        no_move_out = by.no_move_out;
        no_termination = by.no_termination;
        held = there.0;
        numbered = there.1;
        sets = sets.1;
        others = λ alike. by.others (alike ∙ sets.2);
      })

  pub is_old : (r : Record) → HasOldRents known own day r → (is_rent_stale_on own known.units known.rents day ≡ true) × (in_force own day ≡ Some r)
  is_old r at =
      let stands = ((one_now own day its.numbered).some r).1 at.in_force in (
        (stale_by_facts own known.units known.rents day).1 (record {
          certified = r;
          unit = at.unit;
          rents = at.row.rents;
          stands = stands;
          no_move_out = at.no_move_out;
          no_termination = at.no_termination;
          of_unit = (found_by_number known.units r.unit at.unit numbered).1 (at.held, at.numbered);
          on_day = (row_sets_rents known.rents at.unit.group day at.row.rents rise).1 (at.row, at.sets, refl);
          others = at.others;
        }),
        stands,
      )

pub its_plan_day : (known : Known) → IsPlanDay known (plan_day known)
its_plan_day known = record {
  planned = λ plan is. ap (λ (plan : Option Plan). option_map_or (λ plan. first_day_of plan.first) plan 0) is;
  unplanned = λ none. ap (λ (plan : Option Plan). option_map_or (λ plan. first_day_of plan.first) plan 0) none;
}

pub one_plan_day : (known : Known) (day : ℕ) → IsPlanDay known day → plan_day known ≡ day
one_plan_day known day is = by_plan known.plan refl
  where
    by_plan : (plan : Option Plan) → known.plan ≡ plan → plan_day known ≡ day
    by_plan None none = (its_plan_day known).unplanned none ∙ sym (is.unplanned none)
    by_plan (Some plan) planned = (its_plan_day known).planned plan planned ∙ sym (is.planned plan planned)

module _ (known : Known) (kept : AllInTurn known) (numbered : UnitsAreNumbered known.units) (rise : RentActsRise known.rents) (month household : ℕ) (refusal : Refusal) where
  abbrev own : List Record
  own = own_in known household

  abbrev is_stale : ℕ → Bool
  is_stale = is_rent_stale_on own known.units known.rents

  owes : household_rent_due own known.units known.rents (plan_day known) (last_day_of month) household ≡ Some refusal → OwesGross known month household refusal
  owes is =
      let found = and_then-some (λ (day : ℕ). option_map (λ (r : Record). Refusal.RentDue household r.number day) (in_force own day)) (rent_due_day_of own known.units known.rents (plan_day known) (last_day_of month)) refusal is in
      let day : ℕ = found.0 in
      let stands = map-some (λ (r : Record). Refusal.RentDue household r.number day) (in_force own day) refusal found.2 in
      let least : IsLeastOne is_stale (plan_day known) (last_day_of month) day =
      subst (λ (answer : Option ℕ). IsLeast is_stale (plan_day known) (last_day_of month) answer) found.1 (least_that-says is_stale (plan_day known) (last_day_of month)) in
      let its : AreInTurn own = kept household in record {
        first = plan_day known;
        day = day;
        r = stands.0;
        told = stands.2;
        plan_day = its_plan_day known;
        from_first = least.from_first;
        to_last = least.to_last;
        old = old known own its numbered rise day least.this stands.0 stands.1;
        none_earlier = λ earlier other from before has.
            false≢true (sym (least.none_earlier earlier from before) ∙ (is_old known own its numbered rise earlier other has).0);
      }

  is_owing : OwesGross known month household refusal → household_rent_due own known.units known.rents (plan_day known) (last_day_of month) household ≡ Some refusal
  is_owing at =
      let its : AreInTurn own = kept household in
      let first : plan_day known ≡ at.first = one_plan_day known at.first at.plan_day in
      let has = is_old known own its numbered rise at.day at.r at.old in
      let least : IsLeast is_stale (plan_day known) (last_day_of month) (Some at.day) = record {
        from_first = omega (arith, first, at.from_first);
        to_last = at.to_last;
        this = has.0;
        none_earlier = λ n from before. false_from_ne_true (is_stale n) (λ stale. none_stale n from before stale);
      } in
      and_then-from (λ (day : ℕ). option_map (λ (r : Record). Refusal.RentDue household r.number day) (in_force own day)) (rent_due_day_of own known.units known.rents (plan_day known) (last_day_of month)) at.day refusal
      (least_that-is is_stale (plan_day known) (last_day_of month) (Some at.day) least)
      (map-from (λ (r : Record). Refusal.RentDue household r.number at.day) (in_force own at.day) at.r refusal has.1 at.told)
    where
      none_stale : (n : ℕ) → plan_day known ≤ n → n < at.day → is_stale n ≡ true → ⊥
      none_stale n from before stale =
          let by : IsByOtherRents own known.units known.rents n = (stale_by_facts own known.units known.rents n).0 stale in
          at.none_earlier n by.certified (omega (arith, one_plan_day known at.first at.plan_day, from)) before
          (old known own (kept household) numbered rise n stale by.certified by.stands)

pub rent_due_is_plain : RentDueIsPlain
rent_due_is_plain about refusal kept numbered rise = (
  λ is. (let closes = and_then-some (rents_due about.known) about.month refusal is in
      let month : ℕ = closes.0 in
      let least = (least_household (λ household. household_rent_due (own_in about.known household) about.known.units about.known.rents (plan_day about.known) (last_day_of month) household)
      (OwesGross about.known month) (plainly month) refusal (length about.known.households)).0 closes.2 in
      record { month = month; household = least.0; closes = closes.1; least = least.1 }),
  λ at. and_then-from (rents_due about.known) about.month at.month refusal at.closes
      ((least_household (λ household. household_rent_due (own_in about.known household) about.known.units about.known.rents (plan_day about.known) (last_day_of at.month) household)
      (OwesGross about.known at.month) (plainly at.month) refusal (length about.known.households)).1 (at.household, at.least)),
)
  where
    plainly : (month household : ℕ) (refusal : Refusal) →
        (household_rent_due (own_in about.known household) about.known.units about.known.rents (plan_day about.known) (last_day_of month) household ≡ Some refusal) ↔ OwesGross about.known month household refusal
    plainly month household refusal = (owes about.known kept numbered rise month household refusal, is_owing about.known kept numbered rise month household refusal)
