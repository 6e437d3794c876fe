-- 13: the rightful day.
use Rattle.std.proofs.Common.{◌≡◌, ◌∙◌, sym, ap, refl, subst, ℕ, ◌+◌, ◌<◌, ◌≤◌, ◌⊎◌, inl, inr, arith, Bool, true, false, List, Option, Some, None, ◌&&◌, not, filter, eqb, if◌then◌else◌, nat_le}
use Rattle.std.specs.Prelude.{◌↔◌, All, Contains, nat_lt, nat_eq}
use Rattle.std.specs.Option.{option_map_or, option_eq}
use Rattle.std.proofs.lemmas.{Bool.false≢true, Bool.cases_Bool, Bool.cases_lt, Bool.leb-true, Bool.le-leb, Bool.lt-leb, Bool.ltb-true, Bool.lt-ltb, Bool.and_parts, Bool.and_from, Bool.not-true, Bool.not_from_false, Bool.eqb-false, Bool.ne_eqb, Bool.false_from_ne_true, Option.same_Some}
use Rattle.list_laws.proofs.Filters.{filter-filter}
use Rattle.days_core.specs.{Calendar.first_of as first_day_of, OfficeDays.last_office_day}
use Rattle.record_history.specs.{declared.records.Dates.Dates, declared.records.Kind.Kind, declared.records.Record.Record, Records.is_live, Records.live_records, Records.comes_before, Records.latest}
use Rattle.record_history.proofs.ForceLemmas.{numbers_own}
use Rattle.rent_table.specs.{declared.plan.Plan.Plan, Table.RentActsRise}
use Rattle.due_dates.specs.{Law.IsMonthAfter, Law.IsFirstStart, Law.IsByOtherRents, Rightful.next_anniversary, Rightful.next_month, Rightful.first_start_from, Rightful.interim_day, Stale.is_rent_stale_on, Stale.gross_day_of, Least.IsLeast}
use Rattle.due_dates.proofs.{RightfulLemmas.is_next_anniversary, RightfulLemmas.is_month_after, RightfulLemmas.is_first_start, LeastLemmas.least_that-says, LeastLemmas.least_that-is, OtherRents.stale_by_facts}
use Rattle.tenancy_rules.specs.{OrderLaw.Precedes, Order.earliest}
use Rattle.tenancy_rules.proofs.{InPlace.comes, InPlace.precedes, Numbers.rise}
use Rattle.office_step.specs.{declared.refusal.Refusal.Refusal, declared.rightful.Rightful.Rightful, Known.Known, Known.UnitsAreNumbered, Households.AreBy, Households.begins_year, Households.record_at, Households.standing_on, Matter.Matter, Matter.household_of, Matter.own, Made.record_in, Against.by_payment, Against.own_right, Against.right_of, Against.wrong}
use Rattle.office_step.specs.Refusals.{others_of, base, annual_day, annual_right, corrected_annual_right, is_higher, interim_right, corrected_by, corrected_right}
use Rattle.office_step.proofs.Exactly.{Options.each, Options.refused_unless-some, Options.refused_unless-from, Options.and_then-some, Options.and_then-from, Options.another, Options.no_other, Counting.counting, Counting.last_one, Counting.last_none, Counting.first_one, Counting.first_none, Named.found_numbered, Named.record_found, Closing.old, Closing.is_old, Closing.begins_kind, Closing.kind_begins, Closing.one_anniversary}
use Rattle.office_step.specs.plain.{Counting.AreInTurn, Counting.AllInTurn, Counting.Counts, Counting.IsFirstOf, Counting.IsLastOf, Closing.HasOldRents}
use Rattle.office_step.specs.plain.Rightful.{IsHigher, IsInterimDay, BeginsYear, IsAnnualDay, IsGrossDay, IsAnother, HasRightAgain, annual, interim, resumed, HasRight, of_annual, of_gross, of_interim, of_resumed, of_correction, BeginsOnAnother, AreKnownDays, WrongDayIsPlain}

-- ---- starts of months

one_month_after : (day one other : ℕ) → IsMonthAfter day one → IsMonthAfter day other → one ≡ other
one_month_after day one other is that =
    is.begins ∙ ap first_day_of (is.next ∙ sym that.next) ∙ sym that.begins

one_first_start : (day one other : ℕ) → IsFirstStart day one → IsFirstStart day other → one ≡ other
one_first_start day one other is that = omega (arith, is.none_between other that.begins that.from_day, that.none_between one is.begins is.from_day)

module _ (records : List Record) (own : (a b : Record) → Contains records a → Contains records b → a.number ≡ b.number → a ≡ b)
    (passes : Record → Bool) (IsOne : Record → Type 0) (exact : (r : Record) → (Contains records r × (passes r ≡ true)) ↔ IsOne r) where
  -- ---- interims

  module _ (event : ℕ) where
    begun : Record → Bool
    begun r = passes r && nat_le r.from event

    begun_exact : (r : Record) → (Contains records r × ((passes r && nat_le r.from event) ≡ true)) ↔ (IsOne r × (r.from ≤ event))
    begun_exact r = (
      λ (held, both). (let parts = and_parts (passes r) (nat_le r.from event) both in ((exact r).0 (held, parts.0), leb-true r.from event parts.1)),
      λ (one, by). (let its = (exact r).1 one in (its.0, and_from (passes r) (nat_le r.from event) its.1 (le-leb r.from event by))),
    )

    standing : standing_on (filter passes records) event ≡ latest (filter (λ r. passes r && nat_le r.from event) records)
    standing = ap latest (filter-filter (λ r. nat_le r.from event) passes records)

    pub higher : (ttp : ℕ) → (is_higher (filter passes records) ttp event ≡ true) ↔ IsHigher IsOne ttp event
    higher ttp = by_found (standing_on (filter passes records) event) refl
      where
        by_found : (found : Option Record) → standing_on (filter passes records) event ≡ found →
            (nat_lt (option_map_or (λ r. r.ttp) found 0) ttp ≡ true) ↔ IsHigher IsOne ttp event
        by_found None none =
            let never = (last_none records own (λ r. passes r && nat_le r.from event) (λ r. IsOne r × (r.from ≤ event)) begun_exact).0 (sym standing ∙ none) in (
              λ is. inr (never, ltb-true 0 ttp is),
              λ higher. elim higher [ inl has ↦ absurd (never has.0 has.1.one) | inr above ↦ lt-ltb 0 ttp above.1 ],
            )
        by_found (Some r) some =
            let last = (last_one records own (λ r. passes r && nat_le r.from event) (λ r. IsOne r × (r.from ≤ event)) begun_exact r).0 (sym standing ∙ some) in (
              λ is. inl (r, last, ltb-true r.ttp ttp is),
              λ higher. elim higher [
                | inl has ↦
                    let same : has.0 ≡ r = same_Some has.0 r
                    (sym ((last_one records own (λ r. passes r && nat_le r.from event) (λ r. IsOne r × (r.from ≤ event)) begun_exact has.0).1 has.1) ∙ sym standing ∙ some) in
                    lt-ltb r.ttp ttp (subst (λ (q : Record). q.ttp < ttp) same has.2)
                | inr above ↦ absurd (above.0 r last.one)
              ],
            )

  module _ (dates : Dates) (ttp report_days : ℕ) (by : AreBy last_office_day dates) where
    abbrev its_higher : Bool
    its_higher = is_higher (filter passes records) ttp dates.event

    abbrev its_day : ℕ
    its_day = interim_day dates its_higher report_days

    not_higher : (¬ IsHigher IsOne ttp dates.event) → its_higher ≡ false
    not_higher not = false_from_ne_true its_higher (λ is. not ((higher dates.event ttp).0 is))

    day_when : (in_time is_higher : Bool) → nat_le dates.notice (dates.event + report_days) ≡ in_time → its_higher ≡ is_higher →
        its_day ≡ (if in_time then (if is_higher then first_start_from (dates.notice + 30) else next_month dates.event)
        else (if is_higher then next_month dates.event else next_month dates.done))
    day_when in_time is_higher told above =
        ap (λ (b : Bool). if b then (if its_higher then first_start_from (dates.notice + 30) else next_month dates.event)
        else (if its_higher then next_month dates.event else next_month dates.done)) told
        ∙ ap (λ (b : Bool). if in_time then (if b then first_start_from (dates.notice + 30) else next_month dates.event)
        else (if b then next_month dates.event else next_month dates.done)) above

    pub interim_plain : IsInterimDay IsOne dates ttp report_days its_day
    interim_plain = record {
      in_time_and_higher = λ told above.
          subst (λ (day : ℕ). IsFirstStart (dates.notice + 30) day) (sym (day_when true true (le-leb dates.notice (dates.event + report_days) told) ((higher dates.event ttp).1 above)))
          (is_first_start (dates.notice + 30) (omega (arith, by.notice)));
      in_time_and_not = λ told not.
          subst (λ (day : ℕ). IsMonthAfter dates.event day) (sym (day_when true false (le-leb dates.notice (dates.event + report_days) told) (not_higher not)))
          (is_month_after dates.event by.event);
      late_and_higher = λ late above.
          subst (λ (day : ℕ). IsMonthAfter dates.event day) (sym (day_when false true (lt-leb dates.notice (dates.event + report_days) late) ((higher dates.event ttp).1 above)))
          (is_month_after dates.event by.event);
      late_and_not = λ late not.
          subst (λ (day : ℕ). IsMonthAfter dates.done day) (sym (day_when false false (lt-leb dates.notice (dates.event + report_days) late) (not_higher not)))
          (is_month_after dates.done by.done);
    }

    pub one_interim : (day : ℕ) → IsInterimDay IsOne dates ttp report_days day → its_day ≡ day
    one_interim day is = by_cases (cases_lt (dates.event + report_days) dates.notice) (cases_Bool its_higher)
      where
        by_cases : (dates.event + report_days < dates.notice) ⊎ (dates.notice ≤ dates.event + report_days) → (its_higher ≡ true) ⊎ (its_higher ≡ false) → its_day ≡ day
        by_cases (inr told) (inl above) =
            let so = (higher dates.event ttp).0 above in
            one_first_start (dates.notice + 30) its_day day (interim_plain.in_time_and_higher told so) (is.in_time_and_higher told so)
        by_cases (inr told) (inr not) =
            let so : ¬ IsHigher IsOne ttp dates.event = λ above. false≢true (sym not ∙ (higher dates.event ttp).1 above) in
            one_month_after dates.event its_day day (interim_plain.in_time_and_not told so) (is.in_time_and_not told so)
        by_cases (inl late) (inl above) =
            let so = (higher dates.event ttp).0 above in
            one_month_after dates.event its_day day (interim_plain.late_and_higher late so) (is.late_and_higher late so)
        by_cases (inl late) (inr not) =
            let so : ¬ IsHigher IsOne ttp dates.event = λ above. false≢true (sym not ∙ (higher dates.event ttp).1 above) in
            one_month_after dates.done its_day day (interim_plain.late_and_not late so) (is.late_and_not late so)

  -- ---- annuals

  module _ (begins : Record → Bool) (IsBase : Record → Type 0) (based : (r : Record) → (Contains records r × (begins r ≡ true)) ↔ IsBase r)
      (one_of : (r : Record) → IsBase r → IsOne r) (by_2099 : (r : Record) → Contains records r → r.from ≤ last_office_day) where
    abbrev its_annual : Option ℕ
    its_annual = annual_day (earliest (filter passes records)) (latest (filter begins records))

    none_based : (opening : Option Record) → annual_day opening None ≡ None
    none_based None = refl
    none_based (Some r) = refl

    annual_at : (opening last : Record) → IsFirstOf IsOne opening → IsLastOf IsBase last → its_annual ≡ Some (next_anniversary opening.from last.from)
    annual_at opening last first is_last =
        ap (λ (o : Option Record). annual_day o (latest (filter begins records))) ((first_one records own passes IsOne exact opening).1 first)
        ∙ ap (λ (o : Option Record). annual_day (Some opening) o) ((last_one records own begins IsBase based last).1 is_last)

    pub annual_plain : IsAnnualDay IsOne IsBase its_annual
    annual_plain = record {
      none = λ never.
          ap (λ (o : Option Record). annual_day (earliest (filter passes records)) o) ((last_none records own begins IsBase based).1 never)
          ∙ none_based (earliest (filter passes records));
      some = λ opening last first is_last.
          (next_anniversary opening.from last.from, annual_at opening last first is_last, is_next_anniversary opening.from last.from (by_2099 last ((based last).1 is_last.one).0));
    }

    pub one_annual : (right : Option ℕ) → IsAnnualDay IsOne IsBase right → its_annual ≡ right
    one_annual right is = by_base (latest (filter begins records)) refl (earliest (filter passes records)) refl
      where
        by_base : (last : Option Record) → latest (filter begins records) ≡ last → (opening : Option Record) → earliest (filter passes records) ≡ opening → its_annual ≡ right
        by_base None none _ _ =
            let never = (last_none records own begins IsBase based).0 none in annual_plain.none never ∙ sym (is.none never)
        by_base (Some last) some None none =
            absurd ((first_none records own passes IsOne exact).0 none last (one_of last ((last_one records own begins IsBase based last).0 some).one))
        by_base (Some last) some (Some opening) opens =
            let is_last = (last_one records own begins IsBase based last).0 some in
            let first = (first_one records own passes IsOne exact opening).0 opens in
            let day = is.some opening last first is_last in
            annual_at opening last first is_last
            ∙ ap Some (one_anniversary opening.from last.from day.0 (by_2099 last ((based last).1 is_last.one).0) day.2)
            ∙ sym day.1

-- ---- gross rent changes

module _ (known : Known) (own : List Record) (its : AreInTurn own) (numbered : UnitsAreNumbered known.units) (rises : RentActsRise known.rents) where
  abbrev is_stale : ℕ → Bool
  is_stale = is_rent_stale_on own known.units known.rents

  stale_old : (day : ℕ) → is_stale day ≡ true → (r : Record) × HasOldRents known own day r
  stale_old day stale =
      let by : IsByOtherRents own known.units known.rents day = (stale_by_facts own known.units known.rents day).0 stale in
      (by.certified, old known own its numbered rises day stale by.certified by.stands)

  fresh : (day : ℕ) → ((r : Record) → ¬ HasOldRents known own day r) → is_stale day ≡ false
  fresh day never = false_from_ne_true (is_stale day) (λ stale. (let has = stale_old day stale in never has.0 has.1))

  pub gross_plain : IsGrossDay known own (gross_day_of own known.units known.rents)
  gross_plain = record {
    none = λ never. least_that-is is_stale 0 last_office_day None (λ n from by. fresh n (λ r. never n r by));
    some = λ day r by has earlier. least_that-is is_stale 0 last_office_day (Some day) (record {
      from_first = omega arith;
      to_last = by;
      this = (is_old known own its numbered rises day r has).0;
      none_earlier = λ n from before. fresh n (λ other. earlier n other before);
    });
  }

  pub one_gross : (right : Option ℕ) → IsGrossDay known own right → gross_day_of own known.units known.rents ≡ right
  one_gross right is = by_day (gross_day_of own known.units known.rents) refl (least_that-says is_stale 0 last_office_day)
    where
      by_day : (found : Option ℕ) → gross_day_of own known.units known.rents ≡ found → IsLeast is_stale 0 last_office_day found → gross_day_of own known.units known.rents ≡ right
      by_day None none least =
          none ∙ sym (is.none (λ day r by has. false≢true (sym (least day (omega arith) by) ∙ (is_old known own its numbered rises day r has).0)))
      by_day (Some day) some least =
          let has = stale_old day least.this in
          some ∙ sym (is.some day has.0 least.to_last has.1
          (λ earlier other before old_then. false≢true (sym (least.none_earlier earlier (omega arith) before) ∙ (is_old known own its numbered rises earlier other old_then).0)))

-- ---- whose records

base_kind : (r : Record) → begins_year r.kind ≡ true → BeginsYear r
base_kind = begins_kind

module _ (own : List Record) (its : AreInTurn own) where
  numbers : (a b : Record) → Contains own a → Contains own b → a.number ≡ b.number → a ≡ b
  numbers = numbers_own own its.numbered

  by_2099 : (r : Record) → Contains own r → r.from ≤ last_office_day
  by_2099 r held = its.begun r held

  -- those that count
  abbrev begins_now : Record → Bool
  begins_now r = is_live own r && begins_year r.kind

  begins_exact : (r : Record) → (Contains own r × ((is_live own r && begins_year r.kind) ≡ true)) ↔ (Counts own r × BeginsYear r)
  begins_exact r = (
    λ (held, both). (let parts = and_parts (is_live own r) (begins_year r.kind) both in ((counting own r).0 (held, parts.0), begins_kind r parts.1)),
    λ (counts, kind). (let live = (counting own r).1 counts in (live.0, and_from (is_live own r) (begins_year r.kind) live.1 (kind_begins r kind))),
  )

  annual_base : base (live_records own) ≡ latest (filter (λ r. is_live own r && begins_year r.kind) own)
  annual_base = ap latest (filter-filter (λ r. begins_year r.kind) (is_live own) own)

  annual_is : annual_right own ≡ annual_day (earliest (filter (is_live own) own)) (latest (filter (λ r. is_live own r && begins_year r.kind) own))
  annual_is = ap (λ (o : Option Record). annual_day (earliest (live_records own)) o) annual_base

  pub right_annual : IsAnnualDay (Counts own) (λ r. Counts own r × BeginsYear r) (annual_right own)
  right_annual =
      subst (λ (o : Option ℕ). IsAnnualDay (Counts own) (λ r. Counts own r × BeginsYear r) o) (sym annual_is)
      (annual_plain own numbers (is_live own) (Counts own) (counting own) (λ r. is_live own r && begins_year r.kind) (λ r. Counts own r × BeginsYear r) begins_exact (λ r both. both.0) by_2099)

  pub only_annual : (right : Option ℕ) → IsAnnualDay (Counts own) (λ r. Counts own r × BeginsYear r) right → annual_right own ≡ right
  only_annual right is =
      annual_is ∙ one_annual own numbers (is_live own) (Counts own) (counting own) (λ r. is_live own r && begins_year r.kind) (λ r. Counts own r × BeginsYear r) begins_exact (λ r both. both.0) by_2099 right is

  -- those beside one that is corrected
  module _ (target : Record) where
    abbrev beside : Record → Bool
    beside r = is_live own r && not (eqb r.number target.number)

    others : others_of own target ≡ filter (λ r. is_live own r && not (eqb r.number target.number)) own
    others = filter-filter (λ r. not (eqb r.number target.number)) (is_live own) own

    beside_exact : (r : Record) → (Contains own r × ((is_live own r && not (eqb r.number target.number)) ≡ true)) ↔ IsAnother own target r
    beside_exact r = (
      λ (held, both).
          (let parts = and_parts (is_live own r) (not (eqb r.number target.number)) both in
          ((counting own r).0 (held, parts.0), eqb-false r.number target.number (not-true (eqb r.number target.number) parts.1))),
      λ (counts, other).
          (let live = (counting own r).1 counts in
          (live.0, and_from (is_live own r) (not (eqb r.number target.number)) live.1 (not_from_false (eqb r.number target.number) (ne_eqb r.number target.number other)))),
    )

    abbrev begins_before : Record → Bool
    begins_before r = ((is_live own r && not (eqb r.number target.number)) && comes_before r target) && begins_year r.kind

    before_exact : (r : Record) → (Contains own r × (begins_before r ≡ true)) ↔ (IsAnother own target r × BeginsYear r × Precedes r target)
    before_exact r = (
      λ (held, all).
          (let parts = and_parts ((is_live own r && not (eqb r.number target.number)) && comes_before r target) (begins_year r.kind) all in
          let more = and_parts (is_live own r && not (eqb r.number target.number)) (comes_before r target) parts.0 in
          ((beside_exact r).0 (held, more.0), begins_kind r parts.1, precedes r target more.1)),
      λ (another, kind, before).
          (let has = (beside_exact r).1 another in (
            has.0,
            and_from ((is_live own r && not (eqb r.number target.number)) && comes_before r target) (begins_year r.kind)
                (and_from (is_live own r && not (eqb r.number target.number)) (comes_before r target) has.1 (comes r target before)) (kind_begins r kind),
          )),
    )

    again_is : corrected_annual_right own target ≡ annual_day (earliest (filter (λ r. is_live own r && not (eqb r.number target.number)) own)) (latest (filter begins_before own))
    again_is =
        ap (λ (those : List Record). annual_day (earliest those) (base (filter (λ r. comes_before r target) those))) others
        ∙ ap (λ (those : List Record). annual_day (earliest (filter (λ r. is_live own r && not (eqb r.number target.number)) own)) (latest (filter (λ r. begins_year r.kind) those)))
        (filter-filter (λ r. comes_before r target) (λ r. is_live own r && not (eqb r.number target.number)) own)
        ∙ ap (λ (those : List Record). annual_day (earliest (filter (λ r. is_live own r && not (eqb r.number target.number)) own)) (latest those))
        (filter-filter (λ r. begins_year r.kind) (λ r. (is_live own r && not (eqb r.number target.number)) && comes_before r target) own)

    pub right_again : IsAnnualDay (IsAnother own target) (λ r. IsAnother own target r × BeginsYear r × Precedes r target) (corrected_annual_right own target)
    right_again =
        subst (λ (o : Option ℕ). IsAnnualDay (IsAnother own target) (λ r. IsAnother own target r × BeginsYear r × Precedes r target) o) (sym again_is)
        (annual_plain own numbers beside (IsAnother own target) beside_exact begins_before (λ r. IsAnother own target r × BeginsYear r × Precedes r target) before_exact (λ r all. all.0) by_2099)

    pub only_again : (right : Option ℕ) → IsAnnualDay (IsAnother own target) (λ r. IsAnother own target r × BeginsYear r × Precedes r target) right → corrected_annual_right own target ≡ right
    only_again right is =
        again_is ∙ one_annual own numbers beside (IsAnother own target) beside_exact begins_before (λ r. IsAnother own target r × BeginsYear r × Precedes r target) before_exact (λ r all. all.0) by_2099 right is

    -- ---- a correction

    module _ (ttp report_days : ℕ) where
      -- what an interim's right is, by the records beside it
      interim_again : (dates : Dates) → interim_right (others_of own target) dates ttp report_days
          ≡ Rightful.Only (Some (interim_day dates (is_higher (filter (λ r. is_live own r && not (eqb r.number target.number)) own) ttp dates.event) report_days))
      interim_again dates = ap (λ (those : List Record). interim_right those dates ttp report_days) others

      pub again : ((dates : Dates) → target.dates ≡ Some dates → AreBy last_office_day dates) → (right : Option ℕ) →
          corrected_right own target ttp report_days ≡ Rightful.Only right → HasRightAgain own target ttp report_days right
      again known right is = by_kind target.kind refl target.dates refl is
        where
          by_kind : (kind : Kind) → target.kind ≡ kind → (dates : Option Dates) → target.dates ≡ dates → corrected_by own target ttp report_days kind dates ≡ Rightful.Only right →
              HasRightAgain own target ttp report_days right
          by_kind Kind.AR of told dated is =
              let same : corrected_annual_right own target ≡ right = cc in
              annual of (subst (λ (o : Option ℕ). IsAnnualDay (IsAnother own target) (λ r. IsAnother own target r × BeginsYear r × Precedes r target) o) same right_again)
          by_kind Kind.IR of (Some dates) dated is =
              let by = known dates dated in
              let day : ℕ = interim_day dates (is_higher (filter (λ r. is_live own r && not (eqb r.number target.number)) own) ttp dates.event) report_days in
              let only : Rightful.Only (Some day) ≡ Rightful.Only right = sym (interim_again dates) ∙ is in
              let same : Some day ≡ right = cc in
              interim of dates dated day (interim_plain own numbers beside (IsAnother own target) beside_exact dates ttp report_days by) (sym same)
          by_kind Kind.IC of (Some dates) dated is =
              let same : Some (next_month dates.done) ≡ right = cc in
              resumed of dates dated (next_month dates.done) (is_month_after dates.done (known dates dated).done) (sym same)
          by_kind _ of dates dated is = absurd (cc)

      pub from_again : ((dates : Dates) → target.dates ≡ Some dates → AreBy last_office_day dates) → (right : Option ℕ) →
          HasRightAgain own target ttp report_days right → corrected_right own target ttp report_days ≡ Rightful.Only right
      from_again known right (annual of is) =
          ap (λ (kind : Kind). corrected_by own target ttp report_days kind target.dates) of ∙ ap (λ (o : Option ℕ). Rightful.Only o) (only_again right is)
      from_again known right (interim of dates dated day is told) =
          ap (λ (kind : Kind). corrected_by own target ttp report_days kind target.dates) of
          ∙ ap (λ (o : Option Dates). corrected_by own target ttp report_days Kind.IR o) dated
          ∙ interim_again dates
          ∙ ap (λ (o : Option ℕ). Rightful.Only o) (ap Some (one_interim own numbers beside (IsAnother own target) beside_exact dates ttp report_days (known dates dated) day is) ∙ sym told)
      from_again known right (resumed of dates dated day is told) =
          ap (λ (kind : Kind). corrected_by own target ttp report_days kind target.dates) of
          ∙ ap (λ (o : Option Dates). corrected_by own target ttp report_days Kind.IC o) dated
          ∙ ap (λ (o : Option ℕ). Rightful.Only o) (ap Some (one_month_after dates.done (next_month dates.done) day (is_month_after dates.done (known dates dated).done) is) ∙ sym told)

-- ---- an act

-- a right by the payment is one of a record and a plan that are there
payment_only : (about : Matter) (rights : ℕ → ℕ → Rightful) (right : Option ℕ) → by_payment about rights ≡ Rightful.Only right →
    (made : Record) × (plan : Plan) × (record_in about ≡ Some made) × (about.known.plan ≡ Some plan) × (rights made.ttp plan.report_days ≡ Rightful.Only right)
payment_only about rights right is = by_made (record_in about) refl about.known.plan refl is
  where
    by_made : (made : Option Record) → record_in about ≡ made → (plan : Option Plan) → about.known.plan ≡ plan →
        option_map_or (λ made. option_map_or (λ plan. rights made.ttp plan.report_days) plan Rightful.Any) made Rightful.Any ≡ Rightful.Only right →
        (made : Record) × (plan : Plan) × (record_in about ≡ Some made) × (about.known.plan ≡ Some plan) × (rights made.ttp plan.report_days ≡ Rightful.Only right)
    by_made None makes plan planned is = absurd (cc)
    by_made (Some made) makes None planned is = absurd (cc)
    by_made (Some made) makes (Some plan) planned is = (made, plan, makes, planned, is)

payment_so : (about : Matter) (rights : ℕ → ℕ → Rightful) (made : Record) (plan : Plan) → record_in about ≡ Some made → about.known.plan ≡ Some plan →
    by_payment about rights ≡ rights made.ttp plan.report_days
payment_so about rights made plan makes planned =
    ap (λ (o : Option Record). option_map_or (λ made. option_map_or (λ plan. rights made.ttp plan.report_days) about.known.plan Rightful.Any) o Rightful.Any) makes
    ∙ ap (λ (o : Option Plan). option_map_or (λ plan. rights made.ttp plan.report_days) o Rightful.Any) planned

module _ (about : Matter) (kept : AllInTurn about.known) (numbered : UnitsAreNumbered about.known.units) (rises : RentActsRise about.known.rents)
    (told_known : AreKnownDays about.told) (dates_known : All (λ r. AreKnownDays r.dates) (own about)) where
  abbrev its : AreInTurn (own about)
  its = kept (household_of about)

  own_has : about.target ≡ None → (right : Option ℕ) → own_right about about.kind about.told ≡ Rightful.Only right → HasRight about right
  own_has untargeted right is = by_kind about.kind refl about.told refl is
    where
      by_kind : (kind : Option Kind) → about.kind ≡ kind → (told : Option Dates) → about.told ≡ told → own_right about kind told ≡ Rightful.Only right → HasRight about right
      by_kind (Some Kind.AR) of told dated is =
          let same : annual_right (own about) ≡ right = cc in
          of_annual untargeted of (subst (λ (o : Option ℕ). IsAnnualDay (Counts (own about)) (λ r. Counts (own about) r × BeginsYear r) o) same (right_annual (own about) its))
      by_kind (Some Kind.GR) of told dated is =
          let same : gross_day_of (own about) about.known.units about.known.rents ≡ right = cc in
          of_gross untargeted of (subst (λ (o : Option ℕ). IsGrossDay about.known (own about) o) same (gross_plain about.known (own about) its numbered rises))
      by_kind (Some Kind.IR) of (Some dates) dated is =
          let by = payment_only about (interim_right (live_records (own about)) dates) right is in
          let made : Record = by.0 in
          let plan : Plan = by.1 in
          let day : ℕ = interim_day dates (is_higher (filter (is_live (own about)) (own about)) made.ttp dates.event) plan.report_days in
          let only : Rightful.Only (Some day) ≡ Rightful.Only right = by.4 in
          let same : Some day ≡ right = cc in
          of_interim untargeted of dates made plan day dated by.2 by.3
          (interim_plain (own about) (numbers (own about) its) (is_live (own about)) (Counts (own about)) (counting (own about)) dates made.ttp plan.report_days (told_known dates dated)) (sym same)
      by_kind (Some Kind.IC) of (Some dates) dated is =
          let same : Some (next_month dates.done) ≡ right = cc in
          of_resumed untargeted of dates (next_month dates.done) dated (is_month_after dates.done (told_known dates dated).done) (sym same)
      by_kind _ of told dated is = absurd (cc)

  has : (right : Option ℕ) → right_of about about.target ≡ Rightful.Only right → HasRight about right
  has right is = by_target about.target refl is
    where
      by_found : (number : ℕ) → about.target ≡ Some number → (found : Option Record) → record_at (own about) number ≡ found →
          option_map_or (λ target. by_payment about (corrected_right (own about) target)) found Rightful.Any ≡ Rightful.Only right → HasRight about right
      by_found number names None none is = absurd (cc)
      by_found number names (Some target) some is =
          let there = record_found (own about) number target some in
          let by = payment_only about (corrected_right (own about) target) right is in
          let made : Record = by.0 in
          let plan : Plan = by.1 in
          of_correction target made plan (names ∙ ap Some (sym there.1)) there.0 by.2 by.3
          (again (own about) its target made.ttp plan.report_days (each (λ (r : Record). AreKnownDays r.dates) (own about) dates_known target there.0) right by.4)

      by_target : (target : Option ℕ) → about.target ≡ target → right_of about target ≡ Rightful.Only right → HasRight about right
      by_target None names is = own_has names right is
      by_target (Some number) names is = by_found number names (record_at (own about) number) refl is

  own_so : about.target ≡ None → (kind : Kind) → about.kind ≡ Some kind → right_of about about.target ≡ own_right about (Some kind) about.told
  own_so names kind of = ap (λ (target : Option ℕ). right_of about target) names ∙ ap (λ (o : Option Kind). own_right about o about.told) of

  so : (right : Option ℕ) → HasRight about right → right_of about about.target ≡ Rightful.Only right
  so right (of_annual names of is) = own_so names Kind.AR of ∙ ap (λ (o : Option ℕ). Rightful.Only o) (only_annual (own about) its right is)
  so right (of_gross names of is) = own_so names Kind.GR of ∙ ap (λ (o : Option ℕ). Rightful.Only o) (one_gross about.known (own about) its numbered rises right is)
  so right (of_interim names of dates made plan day dated makes planned is told) =
      own_so names Kind.IR of ∙ ap (λ (o : Option Dates). own_right about (Some Kind.IR) o) dated
      ∙ payment_so about (interim_right (live_records (own about)) dates) made plan makes planned
      ∙ ap (λ (o : Option ℕ). Rightful.Only o)
      (ap Some (one_interim (own about) (numbers (own about) its) (is_live (own about)) (Counts (own about)) (counting (own about)) dates made.ttp plan.report_days (told_known dates dated) day is) ∙ sym told)
  so right (of_resumed names of dates day dated is told) =
      own_so names Kind.IC of ∙ ap (λ (o : Option Dates). own_right about (Some Kind.IC) o) dated
      ∙ ap (λ (o : Option ℕ). Rightful.Only o) (ap Some (one_month_after dates.done (next_month dates.done) day (is_month_after dates.done (told_known dates dated).done) is) ∙ sym told)
  so right (of_correction target made plan names held makes planned is) =
      let found = found_numbered (own about) target.number target (rise (own about) its.numbered) held refl in
      ap (λ (target : Option ℕ). right_of about target) names
      ∙ ap (λ (o : Option Record). option_map_or (λ target. by_payment about (corrected_right (own about) target)) o Rightful.Any) found
      ∙ payment_so about (corrected_right (own about) target) made plan makes planned
      ∙ from_again (own about) its target made.ttp plan.report_days (each (λ (r : Record). AreKnownDays r.dates) (own about) dates_known target held) right is

pub wrong_day_is_plain : WrongDayIsPlain
wrong_day_is_plain about refusal kept numbered rises told_known dates_known = (
  λ is. (let begins = and_then-some (wrong (right_of about about.target)) about.from refusal is in by_right (right_of about about.target) refl begins.0 begins.1 begins.2),
  λ at. and_then-from (wrong (right_of about about.target)) about.from at.from refusal at.begins
      (ap (λ (right : Rightful). wrong right at.from) (so about kept numbered rises told_known dates_known at.right at.its)
      ∙ refused_unless-from (option_eq nat_eq at.right (Some at.from)) (Refusal.WrongDay at.right) refusal (no_other at.right at.from at.another) at.told),
)
  where
    by_right : (right : Rightful) → right_of about about.target ≡ right → (from : ℕ) → about.from ≡ Some from → wrong right from ≡ Some refusal → BeginsOnAnother about refusal
    by_right Rightful.Any is from begins refused = absurd (cc)
    by_right (Rightful.Only right) is from begins refused =
        let told = refused_unless-some (option_eq nat_eq right (Some from)) (Refusal.WrongDay right) refusal refused in record {
          from = from;
          right = right;
          told = told.1;
          begins = begins;
          its = has about kept numbered rises told_known dates_known right is;
          another = another right from told.0;
        }
