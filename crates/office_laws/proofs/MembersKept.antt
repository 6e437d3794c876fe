-- How many of each record's family are eligible is kept.
use Rattle.office_laws.proofs.Words.{◌≡◌, ◌∙◌, sym, ap, ap₂, refl, ℕ, ◌+◌, ◌≤◌, arith, List, [], ◌∷◌, ◌++◌, Option, Some, None, option_map_or, All-contains, option_and_then_some, IfSome-each, Kind, Record, Command, HouseholdAct, HouseholdChange, Heading, from_facts, carried, nothing, Known, known_of, own_in, record_of, changing, continued, IsUnder, appended, Kept}
use Rattle.facts_core.specs.declared.facts.Facts.{Facts}
use Rattle.rent_table.specs.Table.{RentActsRise, LimitActsRise}
use Rattle.office_step.specs.{Known.UnitsAreNumbered, Basis.basis_of, Eligible.eligible_of_record, Eligible.eligible_by, After.eligible_next}
use Rattle.office_step.specs.plain.{Acceptance.IsSound, Counting.AllInTurn}
use Rattle.office_step.specs.Made.{made_of_carried, own_heading}
use Rattle.office_step.proofs.{Headed.under, Members.eligible_stays, Members.eligible_last}
use Rattle.office_laws.specs.{Certifies.family_eligible, Eligible.AsManyAsOfContinued, Eligible.AreOfChange, Eligible.AreOfAct, Eligible.EligibleMembersAreKept}
use Rattle.office_laws.proofs.{Inversion.accepted, Makes.record_names_act, Reached.books_are_kept, Known.known_next, AllSound.reached_books_are_sound, Certified.is_continued, Certified.eligible_family, CertifiedMade.IsMade, CertifiedMade.Makes, CertifiedMade.record_is_made}
use Rattle.office_laws.proofs.Members.{AreCounted, are_counted}

-- the number that comes by the act
abbrev number_of : Known → Command → ℕ
number_of known asked = eligible_next known asked (record_of known asked)

module _ (known : Known) where
  of_facts : (asked : Command) (facts : Facts) → basis_of asked ≡ from_facts facts → IsMade (record_of known asked) → number_of known asked ≡ family_eligible facts
  of_facts asked facts basis (r, is) =
      ap (eligible_next known asked) is
      ∙ ap (eligible_by known.eligible (continued (own_in known r.household) r.from)) basis
      ∙ eligible_family facts

  of_nothing : (asked : Command) → basis_of asked ≡ nothing → (made : Option Record) → eligible_next known asked made ≡ 0
  of_nothing asked basis None = refl
  of_nothing asked basis (Some r) = ap (eligible_by known.eligible (continued (own_in known r.household) r.from)) basis

module _ (known : Known) (numbered : UnitsAreNumbered known.units) (rise : RentActsRise known.rents) (limits_rise : LimitActsRise known.limits)
    (kept : AllInTurn known) where
  of_held : (asked : Command) (heading : Heading) (r : Record) → basis_of asked ≡ carried → record_of known asked ≡ Some r → made_of_carried known heading ≡ Some r →
      AsManyAsOfContinued known (own_in known heading.household) heading.from (number_of known asked)
  of_held asked heading r basis is made =
      option_and_then_some _ (continued (own_in known heading.household) heading.from) r made (λ held continues of_held.
      (let its : IsUnder known heading r = under known carried heading r made in
      record {
        held = held;
        continued = is_continued known numbered rise limits_rise (own_in known heading.household) (kept heading.household).numbered heading.from held continues;
        its = ap (eligible_next known asked) is
            ∙ ap (eligible_by known.eligible (continued (own_in known r.household) r.from)) basis
            ∙ ap (λ (o : Option Record). option_map_or (eligible_of_record known.eligible) o 0)
            (ap₂ (λ (household from : ℕ). continued (own_in known household) from) (ap (λ (r : Record). r.household) its.is) (ap (λ (r : Record). r.from) its.is) ∙ continues);
      }))

  module _ (act : HouseholdAct) where
    abbrev asks : HouseholdChange → Command
    asks done = Command.Household (record { household = act.household; seen = act.seen; change = done })

    of_change : (done : HouseholdChange) → IsMade (record_of known (asks done)) → AreOfChange known (own_in known act.household) done (number_of known (asks done))
    of_change (HouseholdChange.Annual annual) made = of_facts known (asks (HouseholdChange.Annual annual)) annual.facts refl made
    of_change (HouseholdChange.Interim interim) made = of_facts known (asks (HouseholdChange.Interim interim)) interim.facts refl made
    of_change (HouseholdChange.Resume resume) made = of_facts known (asks (HouseholdChange.Resume resume)) resume.facts refl made
    of_change (HouseholdChange.Correct correct) made = of_facts known (asks (HouseholdChange.Correct correct)) correct.facts refl made
    of_change (HouseholdChange.Gross gross) (r, is) =
        of_held (asks (HouseholdChange.Gross gross)) (own_heading (changing known act (HouseholdChange.Gross gross)) Kind.GR) r refl is is
    of_change (HouseholdChange.Transfer transfer) (r, is) =
        of_held (asks (HouseholdChange.Transfer transfer)) (own_heading (changing known act (HouseholdChange.Transfer transfer)) Kind.UT) r refl is is
    of_change (HouseholdChange.MoveOut move_out) made =
        of_nothing known (asks (HouseholdChange.MoveOut move_out)) refl (record_of known (asks (HouseholdChange.MoveOut move_out)))
    of_change (HouseholdChange.Terminate terminate) made =
        of_nothing known (asks (HouseholdChange.Terminate terminate)) refl (record_of known (asks (HouseholdChange.Terminate terminate)))
    of_change (HouseholdChange.Withdraw withdraw) made =
        of_nothing known (asks (HouseholdChange.Withdraw withdraw)) refl (record_of known (asks (HouseholdChange.Withdraw withdraw)))

  of_act : (asked : Command) → Makes known asked → AreOfAct known asked (number_of known asked)
  of_act (Command.Start start) made = of_facts known (Command.Start start) start.facts refl made
  of_act (Command.Admit admit) made = of_facts known (Command.Admit admit) admit.facts refl made
  of_act (Command.Household act) made = of_change act act.change made
  of_act asked made = of_nothing known asked refl (record_of known asked)

pub eligible_members_are_kept : EligibleMembersAreKept
eligible_members_are_kept capacity book rows reached appends =
    let known : Known = known_of book in
    let asked : Command = appends.call.command in
    let sound : IsSound _ = reached_books_are_sound capacity book reached asked in
    let counted : AreCounted known = are_counted capacity book reached in
    let kept : Kept capacity book = books_are_kept capacity book reached in
    let more : (known_of (appended book rows)).eligible ≡ known.eligible ++ number_of known asked ∷ [] =
    ap (λ (known : Known). known.eligible) (known_next capacity book rows reached appends) in
    record {
      number = number_of known asked;
      more = more;
      are = of_act known sound.numbered sound.rents sound.limits sound.kept asked (record_is_made capacity book rows reached appends);
      its = IfSome-each (λ r. eligible_of_record (known_of (appended book rows)).eligible r ≡ number_of known asked) rows.made (λ r made.
          (let act : r.act ≡ known.count + 1 = record_names_act known asked r (sym (accepted capacity book rows appends).made ∙ made) in
          ap (λ (numbers : List ℕ). eligible_of_record numbers r) more
          ∙ eligible_last known.eligible (number_of known asked) r (omega (arith, act, counted.long))));
      stay = λ r held.
          ap (λ (numbers : List ℕ). eligible_of_record numbers r) more
          ∙ eligible_stays known.eligible (number_of known asked) r
          (omega (arith, counted.long, All-contains (λ r. r.act ≤ known.count) book.records r kept.made.of_records held));
    }
