-- What the record of each act certifies.
use Rattle.std.proofs.Common.{◌≡◌, ◌∙◌, sym, ap, refl, subst, ℕ, ◌+◌, ◌≤◌, ◌==◌, arith, Bool, true, false, not, ◌||◌, length, Option, Some, None, List}
use Rattle.std.specs.Prelude.{All, Contains, is_some, IsSomeAnd}
use Rattle.std.specs.Option.{option_map}
use Rattle.std.proofs.lemmas.{Bool.eqb-true, Bool.false≢true, Option.option_and_then_some, Option.same_Some, List.Elements.All-contains_itself}
use Rattle.list_laws.proofs.{Finds.find_holds, Options.option_map_none, Options.option_map_some, Options.IfSome-each}
use Rattle.days_core.specs.OfficeDays.{last_office_day}
use Rattle.facts_core.specs.{declared.facts.Facts.Facts, Rules.broken_rule}
use Rattle.record_history.specs.declared.records.{Kind.Kind, Record.Record}
use Rattle.rent_table.specs.Table.{RentActsRise, LimitActsRise, limits_on}
use Rattle.due_dates.specs.Law.{IsMonthAfter}
use Rattle.tenancy_rules.specs.Order.{is_move_in}
use Rattle.book_rows.specs.{declared.rows.Batch.Batch, declared.command.Command.Command, declared.household.HouseholdAct.HouseholdAct, declared.household.HouseholdChange.HouseholdChange, declared.certifications.CorrectAct.CorrectAct, declared.moves.WithdrawAct.WithdrawAct}
use Rattle.office_step.specs.{declared.heading.Heading.Heading, declared.refusal.Refusal.Refusal, Known.Known, Known.UnitsAreNumbered, Known.known_of, Known.own_in, Households.record_at, Households.unit_continued, Eligible.AllEligible, Refusals.refused_unless}
use Rattle.office_step.specs.Matter.{Matter, Basis, from_facts, carried, nothing, matter_of, own as own_records}
use Rattle.office_step.specs.Made.{made_of_facts, made_of_nothing, made_on, heading_in, own_heading, correction_heading, withdrawal_heading, record_in, record_of}
use Rattle.office_step.specs.Against.{no_limits, facts_rule, wrong_day, overdue}
use Rattle.office_step.specs.plain.{Acceptance.IsSound, Counting.AllInTurn, Counting.Counts}
use Rattle.office_step.specs.plain.Rightful.{BeginsYear, IsAnnualDay, IsGrossDay, IsInterimDay, AreKnownDays}
use Rattle.office_step.proofs.{Headed.IsUnder, Headed.under, Headed.IsHeaded, Headed.made_is_headed, Headed.of_household, Headed.changing, Passed.Passed, Exactly.Acceptance.told_known}
use Rattle.office_laws.specs.Certifies.{CertifiesNothing, IsByFacts, IsCarriedOver, KeepsItsUnit, IsOf, ChangeCertifies, CertifiesRightly, RecordsCertifyRightly}
use Rattle.office_laws.proofs.{Members.all_eligible, Inversion.accepted, Inversion.passes, Reached.books_are_kept, Rows.last_within, AllSound.reached_books_are_sound, Certified.by_facts, Certified.keeps_unit, Certified.carried_over}
use Rattle.office_laws.proofs.CertifiedMade.{IsMade, Makes, record_is_made}
use Rattle.office_laws.proofs.{CertifiedDays.annual_begins, CertifiedDays.interim_begins, CertifiedDays.resume_begins, CertifiedDays.gross_begins, CertifiedDays.begins_again, CertifiedClosings.nobody_is_overdue}

-- where limits aren't missed, they stand for a move-in
limits_stand : (moves stands : Bool) (why : Refusal) → refused_unless (not moves || stands) why ≡ None → moves ≡ true → stands ≡ true
limits_stand true true why free is = refl
limits_stand true false why free is = absurd (cc)
limits_stand false stands why free is = absurd (cc)

-- a record that certifies nothing
certifies_nothing : (known : Known) (heading : Heading) (r : Record) → made_of_nothing known heading ≡ r → CertifiesNothing r
certifies_nothing known heading r is = rw (← is) (record { ttp = refl; assistance = refl; contract_rent = refl; utility = refl })

-- what the tests of limits, facts and days leave
record IsFree (about : Matter) : Type 0 where
  limits : no_limits about ≡ None
  facts : facts_rule about ≡ None
  day : wrong_day about ≡ None
  told : AreKnownDays about.told

no_rule : (facts : Facts) (from : ℕ) → option_map (λ rule. Refusal.FactsRule rule) (broken_rule facts from) ≡ None → broken_rule facts from ≡ None
no_rule facts from none = option_map_none (λ rule. Refusal.FactsRule rule) (broken_rule facts from) none

module _ (known : Known) (numbered : UnitsAreNumbered known.units) (rise : RentActsRise known.rents) (limits_rise : LimitActsRise known.limits)
    (kept : AllInTurn known) (all : AllEligible known.eligible known.households) where
  abbrev HasLimits : Heading → Type 0
  HasLimits heading = is_move_in heading.kind ≡ true → is_some (limits_on known.limits heading.from) ≡ true

  -- a record of a kind of its own, for a unit that it names
  on_unit : (heading : Heading) (facts : Facts) → broken_rule facts heading.from ≡ None → HasLimits heading → (r : Record) → made_of_facts known heading facts ≡ Some r →
      IsOf heading.kind heading.from r × (r.unit ≡ heading.unit) × IsByFacts known facts r
  on_unit heading facts fit limits r is =
      let own : IsUnder known heading r = under known (from_facts facts) heading r is in (
        (ap (λ (r : Record). r.kind) own.is, ap (λ (r : Record). r.from) own.is),
        ap (λ (r : Record). r.unit) own.is,
        by_facts known numbered rise limits_rise heading facts fit limits r is,
      )

  -- and for the unit of the record that it continues
  on_its_unit : (heading : Heading) (facts : Facts) → broken_rule facts heading.from ≡ None → HasLimits heading → (r : Record) → made_of_facts known heading facts ≡ Some r →
      heading.unit ≡ unit_continued (own_in known heading.household) heading.from →
      IsOf heading.kind heading.from r × KeepsItsUnit (own_in known heading.household) r × IsByFacts known facts r
  on_its_unit heading facts fit limits r is unit =
      let has = on_unit heading facts fit limits r is in (
        has.0,
        keeps_unit known numbered rise limits_rise (own_in known heading.household) (kept heading.household).numbered r has.2.certifies.rents
            (has.1 ∙ unit ∙ ap (unit_continued (own_in known heading.household)) (sym has.0.1)),
        has.2,
      )

  module _ (act : HouseholdAct) (r : Record) where
    abbrev own : List Record
    own = own_in known act.household

    abbrev about : HouseholdChange → Matter
    about done = changing known act done

    abbrev no_move_in : {A : Type 0} → false ≡ true → A
    no_move_in moves = absurd (false≢true moves)

    corrected : (correct : CorrectAct) → record_in (about (HouseholdChange.Correct correct)) ≡ Some r → IsFree (about (HouseholdChange.Correct correct)) →
        All (λ r. AreKnownDays r.dates) own → ChangeCertifies known own (HouseholdChange.Correct correct) r
    corrected correct is free dates =
        option_and_then_some (made_on known (from_facts correct.facts)) (heading_in (about (HouseholdChange.Correct correct))) r is (λ heading found made.
        option_map_some (λ target. correction_heading act.household target correct.from) (record_at own correct.target) heading found (λ target at same.
        (let from : heading.from ≡ correct.from = ap (λ (h : Heading). h.from) (sym same) in
        let missed : refused_unless (not (is_move_in heading.kind) || is_some (limits_on known.limits heading.from)) (Refusal.NoLimits heading.from) ≡ None = rw found at free.limits in
        let has = on_unit heading correct.facts (ap (broken_rule correct.facts) from ∙ no_rule correct.facts correct.from free.facts)
        (limits_stand (is_move_in heading.kind) (is_some (limits_on known.limits heading.from)) (Refusal.NoLimits heading.from) missed) r made in (
          has.0.1 ∙ from,
          has.2,
          λ plan target right planned held named again.
              begins_again known numbered rise act (kept act.household) r plan planned correct dates is free.day target held named right again ∙ ap Some (sym (has.0.1 ∙ from)),
        ))))

    withdrawn : (withdraw : WithdrawAct) → record_in (about (HouseholdChange.Withdraw withdraw)) ≡ Some r → ChangeCertifies known own (HouseholdChange.Withdraw withdraw) r
    withdrawn withdraw is =
        option_and_then_some (made_on known nothing) (heading_in (about (HouseholdChange.Withdraw withdraw))) r is (λ heading found made.
        option_map_some (λ target. withdrawal_heading act.household target) (record_at own withdraw.target) heading found (λ target at same.
        (let own_is : made_of_nothing known heading ≡ r = same_Some _ r made in
        let named = find_holds (λ (held : Record). held.number == withdraw.target) (Contains own) own target at (All-contains_itself own) in (
          ap (λ (r : Record). r.kind) (sym own_is) ∙ ap (λ (h : Heading). h.kind) (sym same),
          ap (λ (r : Record). r.corrects) (sym own_is) ∙ ap (λ (h : Heading). h.corrects) (sym same) ∙ eqb-true target.number withdraw.target named.1,
          certifies_nothing known heading r own_is,
        ))))

    carried_own : (heading : Heading) → made_on known carried heading ≡ Some r →
        IsOf heading.kind heading.from r × (r.unit ≡ heading.unit) × IsCarriedOver known (own_in known heading.household) r
    carried_own heading is =
        let its : IsUnder known heading r = under known carried heading r is in (
          (ap (λ (r : Record). r.kind) its.is, ap (λ (r : Record). r.from) its.is),
          ap (λ (r : Record). r.unit) its.is,
          carried_over known numbered rise limits_rise heading (kept heading.household).numbered all r is,
        )

    change_certifies : (done : HouseholdChange) → record_in (about done) ≡ Some r → IsFree (about done) → All (λ r. AreKnownDays r.dates) own →
        ChangeCertifies known own done r
    change_certifies (HouseholdChange.Annual annual) is free dates =
        let has = on_its_unit (own_heading (about (HouseholdChange.Annual annual)) Kind.AR) annual.facts (no_rule annual.facts annual.from free.facts) no_move_in r is refl in (
          has.0,
          has.1,
          has.2,
          subst (λ (day : ℕ). IsAnnualDay (Counts own) (λ other. Counts own other × BeginsYear other) (Some day)) (sym has.0.1)
              (annual_begins known numbered rise act (kept act.household) annual free.day),
        )
    change_certifies (HouseholdChange.Interim interim) is free dates =
        let has = on_its_unit (own_heading (about (HouseholdChange.Interim interim)) Kind.IR) interim.facts (no_rule interim.facts interim.from free.facts) no_move_in r is refl in (
          has.0,
          has.1,
          has.2,
          IfSome-each (λ plan. IsInterimDay (Counts own) interim.dates r.ttp plan.report_days r.from) known.plan (λ plan planned.
              subst (λ (day : ℕ). IsInterimDay (Counts own) interim.dates r.ttp plan.report_days day) (sym has.0.1)
              (interim_begins known numbered rise act (kept act.household) r plan planned interim (free.told interim.dates refl) is free.day)),
        )
    change_certifies (HouseholdChange.Resume resume) is free dates =
        let has = on_its_unit (own_heading (about (HouseholdChange.Resume resume)) Kind.IC) resume.facts (no_rule resume.facts resume.from free.facts) no_move_in r is refl in (
          has.0,
          has.1,
          has.2,
          subst (λ (day : ℕ). IsMonthAfter resume.done day) (sym has.0.1)
              (resume_begins known numbered rise act (kept act.household) resume (free.told _ refl).done free.day),
        )
    change_certifies (HouseholdChange.Gross gross) is free dates =
        let has = carried_own (own_heading (about (HouseholdChange.Gross gross)) Kind.GR) is in (
          has.0,
          keeps_unit known numbered rise limits_rise own (kept act.household).numbered r has.2.certifies.rents (has.1 ∙ ap (unit_continued own) (sym has.0.1)),
          has.2,
          subst (λ (day : ℕ). IsGrossDay known own (Some day)) (sym has.0.1) (gross_begins known numbered rise act (kept act.household) gross free.day),
        )
    change_certifies (HouseholdChange.Correct correct) is free dates = corrected correct is free dates
    change_certifies (HouseholdChange.Transfer transfer) is free dates = carried_own (own_heading (about (HouseholdChange.Transfer transfer)) Kind.UT) is
    change_certifies (HouseholdChange.MoveOut move_out) is free dates =
        let same = same_Some _ r is in
        ((ap (λ (r : Record). r.kind) (sym same), ap (λ (r : Record). r.from) (sym same)), certifies_nothing known _ r same)
    change_certifies (HouseholdChange.Terminate terminate) is free dates =
        let same = same_Some _ r is in
        ((ap (λ (r : Record). r.kind) (sym same), ap (λ (r : Record). r.from) (sym same)), certifies_nothing known _ r same)
    change_certifies (HouseholdChange.Withdraw withdraw) is free dates = withdrawn withdraw is

  -- ---- whose record

  with_household : {A B C : Type 0} (heading : Heading) (basis : Basis) (r : Record) → made_on known basis heading ≡ Some r → A × B × C →
      (r.household ≡ heading.household) × A × B × C
  with_household heading basis r is rest = (ap (λ (r : Record). r.household) (under known basis heading r is).is, rest.0, rest.1, rest.2)

  of_act : (act : HouseholdAct) (r : Record) → record_of known (Command.Household act) ≡ Some r → r.household ≡ act.household
  of_act act r is =
      let headed : IsHeaded known (Command.Household act) r = made_is_headed known (Command.Household act) r is in
      ap (λ (r : Record). r.household) headed.under.is ∙ of_household (matter_of known (Command.Household act)) headed.heading headed.is_its

  -- where the act makes a record, that is as it should be
  made_so : (rows : Batch) (made : Option Record) (P : Record → Type 0) → rows.made ≡ made → IsMade made → ((r : Record) → made ≡ Some r → P r) → IsSomeAnd rows.made P
  made_so rows made P same (r, is) each = subst (λ (o : Option Record). IsSomeAnd o P) (sym (same ∙ is)) (each r is)

  certifies_rightly : (rows : Batch) (asked : Command) → IsFree (matter_of known asked) → All (λ r. AreKnownDays r.dates) (own_records (matter_of known asked)) →
      overdue (matter_of known asked) ≡ None → Makes known asked → rows.made ≡ record_of known asked → CertifiesRightly known rows asked
  certifies_rightly rows (Command.Start start) free dates none makes made =
      made_so rows (record_of known (Command.Start start)) (λ r. (r.household ≡ length known.households + 1) × IsOf Kind.IC start.from r × (r.unit ≡ start.unit) × IsByFacts known start.facts r) made makes (λ r is.
      with_household (own_heading (matter_of known (Command.Start start)) Kind.IC) (from_facts start.facts) r is (on_unit (own_heading (matter_of known (Command.Start start)) Kind.IC) start.facts (no_rule start.facts start.from free.facts) (λ moves. absurd (false≢true moves)) r is))
  certifies_rightly rows (Command.Admit admit) free dates none makes made =
      made_so rows (record_of known (Command.Admit admit)) (λ r. (r.household ≡ length known.households + 1) × IsOf Kind.MI admit.from r × (r.unit ≡ admit.unit) × IsByFacts known admit.facts r) made makes (λ r is.
      with_household (own_heading (matter_of known (Command.Admit admit)) Kind.MI) (from_facts admit.facts) r is (on_unit (own_heading (matter_of known (Command.Admit admit)) Kind.MI) admit.facts (no_rule admit.facts admit.from free.facts)
      (limits_stand true (is_some (limits_on known.limits admit.from)) (Refusal.NoLimits admit.from) free.limits) r is))
  certifies_rightly rows (Command.Household act) free dates none makes made =
      made_so rows (record_of known (Command.Household act)) (λ r. (r.household ≡ act.household) × ChangeCertifies known (own_in known act.household) act.change r) made makes (λ r is.
      (of_act act r is, change_certifies act r act.change is free dates))
  certifies_rightly rows (Command.Close close) free dates none makes made = nobody_is_overdue known kept close.month none
  certifies_rightly rows _ free dates none makes made = tt

pub records_certify_rightly : RecordsCertifyRightly
records_certify_rightly capacity book rows reached appends =
    let about : Matter = matter_of (known_of book) appends.call.command in
    let sound : IsSound about = reached_books_are_sound capacity book reached appends.call.command in
    let free : Passed (known_of book) capacity.acts rows.act.day appends.call.command = passes capacity book rows appends in
    let by : rows.act.day ≤ last_office_day =
    omega (arith, (accepted capacity book rows appends).day, last_within book.acts (books_are_kept capacity book reached).acts.years) in
    certifies_rightly (known_of book) sound.numbered sound.rents sound.limits sound.kept (all_eligible capacity book reached) rows appends.call.command
    (record { limits = free.no_limits; facts = free.facts_rule; day = free.wrong_day; told = told_known rows.act.day about by free.day_range })
    sound.dates free.overdue (record_is_made capacity book rows reached appends) (accepted capacity book rows appends).made
