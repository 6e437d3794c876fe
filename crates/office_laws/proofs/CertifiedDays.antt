-- The first day of a record is the rightful one.
use Rattle.std.proofs.Common.{◌≡◌, ◌∙◌, sym, ap, subst, ℕ, ◌≤◌, List, Option, Some, None}
use Rattle.std.specs.Prelude.{All, Contains, nat_eq}
use Rattle.std.specs.Option.{option_map_or}
use Rattle.std.proofs.lemmas.{Bool.eqb-true, Option.same_Some, List.Elements.All-contains}
use Rattle.days_core.specs.OfficeDays.{last_office_day}
use Rattle.record_history.specs.{declared.records.Record.Record, Records.is_live, Records.live_records}
use Rattle.record_history.proofs.ForceLemmas.{numbers_own}
use Rattle.rent_table.specs.{declared.plan.Plan.Plan, Table.RentActsRise}
use Rattle.due_dates.specs.{Law.IsMonthAfter, Rightful.next_month, Rightful.interim_day, Stale.gross_day_of}
use Rattle.due_dates.proofs.RightfulLemmas.{is_month_after}
use Rattle.tenancy_rules.proofs.Numbers.{rise}
use Rattle.book_rows.specs.declared.{household.HouseholdAct.HouseholdAct, household.HouseholdChange.HouseholdChange, certifications.AnnualAct.AnnualAct, certifications.InterimAct.InterimAct, certifications.ResumeAct.ResumeAct, certifications.GrossAct.GrossAct, certifications.CorrectAct.CorrectAct}
use Rattle.office_step.specs.{declared.refusal.Refusal.Refusal, declared.rightful.Rightful.Rightful, Known.Known, Known.UnitsAreNumbered, Known.own_in, Households.AreBy, Households.record_at, Matter.Matter, Made.record_in, Against.by_payment, Against.wrong, Against.wrong_day, Refusals.annual_right, Refusals.interim_right, Refusals.is_higher, Refusals.resume_right, Refusals.corrected_right}
use Rattle.office_step.specs.plain.{Counting.AreInTurn, Counting.Counts}
use Rattle.office_step.specs.plain.Rightful.{IsInterimDay, BeginsYear, IsAnnualDay, IsGrossDay, HasRightAgain, AreKnownDays}
use Rattle.office_step.proofs.{Headed.changing, Passed.test_passed, Exactly.Named.found_numbered, Exactly.Counting.counting, Exactly.Rightful.right_annual, Exactly.Rightful.gross_plain, Exactly.Rightful.interim_plain, Exactly.Rightful.from_again}

-- where the day isn't wrong, it is the one that is right
right_is : (right : Option ℕ) (from : ℕ) → wrong (Rightful.Only right) from ≡ None → right ≡ Some from
right_is None from none = absurd (cc)
right_is (Some day) from none = ap Some (eqb-true day from (test_passed (nat_eq day from) (Refusal.WrongDay (Some day)) none))

by_its_payment : (about : Matter) (rights : ℕ → ℕ → Rightful) (from : ℕ) (r : Record) (plan : Plan) → record_in about ≡ Some r → about.known.plan ≡ Some plan →
    wrong (by_payment about rights) from ≡ None → wrong (rights r.ttp plan.report_days) from ≡ None
by_its_payment about rights from r plan makes planned none =
    sym (ap (λ (made : Option Record). wrong (option_map_or (λ made. option_map_or (λ plan. rights made.ttp plan.report_days) about.known.plan Rightful.Any) made Rightful.Any) from) makes
    ∙ ap (λ (plan : Option Plan). wrong (option_map_or (λ plan. rights r.ttp plan.report_days) plan Rightful.Any) from) planned) ∙ none

module _ (known : Known) (units : UnitsAreNumbered known.units) (rents : RentActsRise known.rents) (act : HouseholdAct) (its : AreInTurn (own_in known act.household)) where
  abbrev own : List Record
  own = own_in known act.household

  abbrev about : HouseholdChange → Matter
  about done = changing known act done

  pub annual_begins : (annual : AnnualAct) → wrong_day (about (HouseholdChange.Annual annual)) ≡ None →
      IsAnnualDay (Counts own) (λ r. Counts own r × BeginsYear r) (Some annual.from)
  annual_begins annual free =
      subst (λ (o : Option ℕ). IsAnnualDay (Counts own) (λ r. Counts own r × BeginsYear r) o) (right_is (annual_right own) annual.from free) (right_annual own its)

  pub gross_begins : (gross : GrossAct) → wrong_day (about (HouseholdChange.Gross gross)) ≡ None → IsGrossDay known own (Some gross.from)
  gross_begins gross free =
      subst (λ (o : Option ℕ). IsGrossDay known own o) (right_is (gross_day_of own known.units known.rents) gross.from free) (gross_plain known own its units rents)

  pub resume_begins : (resume : ResumeAct) → resume.done ≤ last_office_day → wrong_day (about (HouseholdChange.Resume resume)) ≡ None →
      IsMonthAfter resume.done resume.from
  resume_begins resume by free =
      subst (λ (day : ℕ). IsMonthAfter resume.done day)
      (same_Some (next_month resume.done) resume.from (right_is (Some (resume_right resume.done)) resume.from free)) (is_month_after resume.done by)

  module _ (r : Record) (plan : Plan) (planned : known.plan ≡ Some plan) where
    pub interim_begins : (interim : InterimAct) → AreBy last_office_day interim.dates → record_in (about (HouseholdChange.Interim interim)) ≡ Some r →
        wrong_day (about (HouseholdChange.Interim interim)) ≡ None → IsInterimDay (Counts own) interim.dates r.ttp plan.report_days interim.from
    interim_begins interim by makes free =
        let day : ℕ = interim_day interim.dates (is_higher (live_records own) r.ttp interim.dates.event) plan.report_days in
        let right = right_is (Some day) interim.from (by_its_payment (about (HouseholdChange.Interim interim)) (interim_right (live_records own) interim.dates) interim.from r plan makes planned free) in
        subst (λ (day : ℕ). IsInterimDay (Counts own) interim.dates r.ttp plan.report_days day) (same_Some day interim.from right)
        (interim_plain own (numbers_own own its.numbered) (is_live own) (Counts own) (counting own) interim.dates r.ttp plan.report_days by)

    pub begins_again : (correct : CorrectAct) → All (λ r. AreKnownDays r.dates) own → record_in (about (HouseholdChange.Correct correct)) ≡ Some r →
        wrong_day (about (HouseholdChange.Correct correct)) ≡ None →
        (target : Record) → Contains own target → target.number ≡ correct.target → (right : Option ℕ) → HasRightAgain own target r.ttp plan.report_days right → right ≡ Some correct.from
    begins_again correct dates makes free target held named right is =
        let there : record_at own correct.target ≡ Some target = found_numbered own correct.target target (rise own its.numbered) held named in
        let only = from_again own its target r.ttp plan.report_days (All-contains (λ r. AreKnownDays r.dates) own target dates held) right is in
        let tried : wrong (by_payment (about (HouseholdChange.Correct correct)) (corrected_right own target)) correct.from ≡ None =
        sym (ap (λ (found : Option Record). wrong (option_map_or (λ target. by_payment (about (HouseholdChange.Correct correct)) (corrected_right own target)) found Rightful.Any) correct.from) there) ∙ free in
        right_is right correct.from
        (sym (ap (λ (right : Rightful). wrong right correct.from) only)
        ∙ by_its_payment (about (HouseholdChange.Correct correct)) (corrected_right own target) correct.from r plan makes planned tried)
