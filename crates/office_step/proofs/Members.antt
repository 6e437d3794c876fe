-- Of the family of each record some are eligible, and no more than it has members.
use Rattle.std.proofs.Common.{◌≡◌, refl, ap, subst, ℕ, ◌∙◌, ◌+◌, ◌-◌, ◌≤◌, arith, Option, Some, None, List, [], ◌∷◌, ◌++◌, length, get_or}
use Rattle.std.specs.Prelude.{⊤, ◌==◌, All, IfSome, unwrap_or, slice_get}
use Rattle.std.specs.Option.{option_map_or}
use Rattle.std.proofs.lemmas.{Option.option_and_then_some, Option.same_Some, Option.slice_get-get_or, Grind.common_steps, List.length_push, List.get_or_push, List.Elements.All-nil}
use Rattle.list_laws.proofs.{Elements.slice_get-append, Finds.find_holds, Options.option_map_none, Options.option_map_some}
use Rattle.facts_core.specs.{declared.facts.Facts.Facts, Rules.broken_rule, Rules.eligible_members}
use Rattle.record_history.specs.{declared.records.Record.Record, Records.in_force}
use Rattle.record_history.proofs.Latest.{records_are, in_force_among}
use Rattle.certified_figures.specs.Figures.{AreEligible, size_of}
use Rattle.certified_figures.proofs.Family.{HasFamily, has_family}
use Rattle.book_rows.specs.declared.{command.Command.Command, household.HouseholdChange.HouseholdChange}
use Rattle.office_step.specs.{declared.heading.Heading.Heading, declared.refusal.Refusal.Refusal, Known.Known, Known.own_in, Households.continued, After.eligible_next}
use Rattle.office_step.specs.Acts.{at_number}
use Rattle.office_step.specs.Eligible.{eligible_of_record, eligible_by, AllEligible}
use Rattle.office_step.specs.Matter.{Basis, from_facts, carried, nothing, basis_in, basis_of, matter_of}
use Rattle.office_step.specs.Made.{rents_in_unit, made_on, heading_in, record_of}
use Rattle.office_step.specs.Against.{facts_rule, rule_broken}
use Rattle.office_step.proofs.Headed.{changing}

-- ---- the facts

-- the facts break no rule on some day, if there are facts
abbrev IsKept : Basis → Type 0
IsKept (from_facts facts) = (day : ℕ) × (broken_rule facts day ≡ None)
IsKept _ = ⊤

no_rule : (facts : Facts) (from : ℕ) → rule_broken (from_facts facts) from ≡ None → IsKept (from_facts facts)
no_rule facts from none = (from, option_map_none (λ rule. Refusal.FactsRule rule) (broken_rule facts from) none)

kept_by : (known : Known) (asked : Command) → facts_rule (matter_of known asked) ≡ None → IsKept (basis_of asked)
kept_by known (Command.Start start) none = no_rule start.facts start.from none
kept_by known (Command.Admit admit) none = no_rule admit.facts admit.from none
kept_by known (Command.Household act) none = by_change act.change none
  where
    by_change : (done : HouseholdChange) → facts_rule (changing known act done) ≡ None → IsKept (basis_in done)
    by_change (HouseholdChange.Annual annual) none = no_rule annual.facts annual.from none
    by_change (HouseholdChange.Interim interim) none = no_rule interim.facts interim.from none
    by_change (HouseholdChange.Resume resume) none = no_rule resume.facts resume.from none
    by_change (HouseholdChange.Correct correct) none = no_rule correct.facts correct.from none
    by_change _ none = tt
kept_by known _ none = tt

of_facts : (facts : Facts) (day : ℕ) → broken_rule facts day ≡ None → AreEligible (eligible_members facts) (size_of facts)
of_facts facts day kept =
    let has : HasFamily facts = has_family facts day kept in
    record { some = λ one. has.some_eligible; among = has.eligible; few = has.few }

-- ---- the record that is continued

-- what holds of each record of a household holds of the one that is continued
pub continued_among : (P : Record → Type 0) (own : List Record) (from : ℕ) (held : Record) → All P own → continued own from ≡ Some held → P held
continued_among P own from held all is = by_found (in_force own from) refl (in_force_among P own from all)
  where
    by_found : (found : Option Record) → in_force own from ≡ found → IfSome found P → P held
    by_found (Some r) some holds = subst P (same_Some r held (rw some at is)) holds
    by_found None none holds = (find_holds (λ (r : Record). r.number == 1) P own held (rw none at is) all).0

-- and what holds of all records
pub continued_in : (P : Record → Type 0) (known : Known) (household from : ℕ) (held : Record) →
    All (All P) known.households → continued (own_in known household) from ≡ Some held → P held
continued_in P known household from held all is =
    continued_among P (own_in known household) from held (records_are (All P) known.households household all (All-nil P)) is

-- ---- the number of one act more

-- leaves those of the records that there are
pub eligible_stays : (numbers : List ℕ) (eligible : ℕ) (r : Record) → r.act ≤ length numbers →
    eligible_of_record (numbers ++ eligible ∷ []) r ≡ eligible_of_record numbers r
eligible_stays numbers eligible r by = ap (λ found. unwrap_or found 0) (by_act r.act by)
  where
    by_act : (act : ℕ) → act ≤ length numbers → at_number (numbers ++ eligible ∷ []) act ≡ at_number numbers act
    by_act act by = grind (arith, common_steps, slice_get-append numbers (eligible ∷ []) (act - 1), by)

-- and is that of its record
pub eligible_last : (numbers : List ℕ) (eligible : ℕ) (r : Record) → r.act ≡ length numbers + 1 → eligible_of_record (numbers ++ eligible ∷ []) r ≡ eligible
eligible_last numbers eligible r is =
    rw is (ap (λ found. unwrap_or found 0) (last_at (length numbers) refl))
  where
    last_at : (place : ℕ) → length numbers ≡ place → at_number (numbers ++ eligible ∷ []) (place + 1) ≡ Some eligible
    last_at place long =
        let back : place + 1 - 1 ≡ place = omega arith in
        let at : slice_get (numbers ++ eligible ∷ []) (place + 1 - 1) ≡ Some eligible =
        ap (slice_get (numbers ++ eligible ∷ [])) back
        ∙ slice_get-get_or (numbers ++ eligible ∷ []) place 0 (omega (arith, length_push numbers eligible, long)) ∙ ap Some (get_or_push numbers eligible 0 place long) in
        grind (arith, common_steps, at)

pub eligible_longer : (numbers : List ℕ) (eligible : ℕ) (households : List (List Record)) → AllEligible numbers households →
    All (All (λ r. r.act ≤ length numbers)) households → AllEligible (numbers ++ eligible ∷ []) households
eligible_longer numbers eligible households all acts = λ i own here k r there.
    rw (eligible_stays numbers eligible (get_or (get_or households i own) k r) (acts i own here k r there)) (all i own here k r there)

-- ---- the record that is made

module _ (known : Known) (all : AllEligible known.eligible known.households) where
  made_eligible : (basis : Basis) (heading : Heading) (r : Record) → IsKept basis → made_on known basis heading ≡ Some r →
      AreEligible (eligible_by known.eligible (continued (own_in known r.household) r.from) basis) r.size
  made_eligible (from_facts facts) heading r kept is =
      option_and_then_some _ known.plan r is (λ plan given of_plan.
      option_map_some _ (rents_in_unit known heading.unit heading.from) r of_plan (λ rents stand same.
      subst (λ (r : Record). AreEligible (eligible_members facts) r.size) same (of_facts facts kept.0 kept.1)))
  made_eligible carried heading r kept is =
      option_and_then_some _ (continued (own_in known heading.household) heading.from) r is (λ held continues of_held.
      option_map_some _ (rents_in_unit known heading.unit heading.from) r of_held (λ rents stand same.
      subst (λ (r : Record). AreEligible (option_map_or (eligible_of_record known.eligible) (continued (own_in known r.household) r.from) 0) r.size) same
      (rw continues (continued_in (λ r. AreEligible (eligible_of_record known.eligible r) r.size) known heading.household heading.from held all continues))))
  made_eligible nothing heading r kept is =
      subst (λ (r : Record). AreEligible 0 r.size) (same_Some _ r is) (record { some = λ one. absurd (omega (arith, one)); among = omega arith; few = omega arith })

-- facts that an act gives have at most 16 members
pub few_members : (known : Known) (asked : Command) (facts : Facts) → facts_rule (matter_of known asked) ≡ None → basis_of asked ≡ from_facts facts →
    length facts.members ≤ 16
few_members known asked facts free is =
    let kept : IsKept (from_facts facts) = subst IsKept is (kept_by known asked free) in (has_family facts kept.0 kept.1).few_persons

pub eligible_made : (known : Known) (asked : Command) (r : Record) → AllEligible known.eligible known.households → facts_rule (matter_of known asked) ≡ None →
    record_of known asked ≡ Some r → AreEligible (eligible_next known asked (Some r)) r.size
eligible_made known asked r all free is =
    option_and_then_some (made_on known (basis_of asked)) (heading_in (matter_of known asked)) r is (λ heading found made.
    made_eligible known all (basis_of asked) heading r (kept_by known asked free) made)
