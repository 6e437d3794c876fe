-- That the record of an accepted act is the next of its household.
use Rattle.office_register.proofs.Words.{◌≡◌, ◌∙◌, sym, refl, ℕ, ◌≤◌, ◌<◌, List, Option, Some, None, Bool, true, arith, length, is_some, Record, UnitRow, RentRow, StartAct, AdmitAct, Command, Known, HouseholdAct, household_there, are_there, IsAccepted, IsNext, common_steps, not, option_and_then, test_passed, unit_at, rents_on, AllEligible, AreEligible}
use Rattle.facts_core.specs.declared.facts.Facts.{Facts}
use Rattle.due_dates.specs.Stale.{unit_rents_on}
use Rattle.office_refusals.specs.Below.office_step.{declared.heading.Heading.Heading, Known.own_in, Matter.Matter, Matter.matter_of, After.eligible_next, Against.no_rent_on, Refusals.refused_if, Refusals.refused_unless, declared.refusal.Named.Named, declared.refusal.Refusal.Refusal}
use Rattle.office_refusals.specs.Below.office_step.Made.{record_of, rents_in_unit, made_of_facts, heading_of}
use Rattle.office_refusals.proofs.Below.office_step.{Earlier.under_it, Earlier.names_earlier, Headed.IsHeaded, Headed.IsUnder, Headed.made_is_headed, Headed.IsNextUnder, Headed.next_under, Headed.of_household, Headed.under_own}
use Rattle.office_refusals.proofs.Below.office_step.Members.{eligible_made}
use Rattle.record_history.specs.Held.{AreNumbered}
use Rattle.office_register.proofs.Standing.{passes}

-- ---- a household that there is

-- the record is the next of a household that there is
pub record IsFurther (known : Known) (r : Record) : Type 0 where
  pub first : 1 ≤ r.household
  pub there : r.household ≤ length known.households
  pub next : IsNext known r

next_of : {known : Known} {heading : Heading} {r : Record} → IsNextUnder known heading r → r.corrects < r.number → IsNext known r
next_of is earlier = record { number = is.number; act = is.act; earlier = earlier }

module _ (known : Known) (act : HouseholdAct) (made : Option Record) (r : Record) (accepted : IsAccepted known (Command.Household act) made) (is : made ≡ Some r) where
  headed : IsHeaded known (Command.Household act) r
  headed = made_is_headed known (Command.Household act) r (sym accepted.is_made ∙ is)

  under : IsNextUnder known headed.heading r
  under = next_under known headed.heading r headed.under

  household_is : r.household ≡ act.household
  household_is = under.household ∙ of_household (matter_of known (Command.Household act)) headed.heading headed.is_its

  -- it is of a household that there is
  pub accepted_there : (1 ≤ r.household) × (r.household ≤ length known.households)
  accepted_there =
      let there = household_there known act.household (are_there (matter_of known (Command.Household act)) (passes accepted).no_such).household in
      (omega (arith, household_is, there.0), omega (arith, household_is, there.1))

  pub accepted_further : AreNumbered (own_in known act.household) → IsFurther known r
  accepted_further numbered = record {
    first = accepted_there.0;
    there = accepted_there.1;
    next = next_of under (names_earlier known act r (sym accepted.is_made ∙ is) (rw household_is numbered));
  }

-- ---- a new household

-- the record is the next of that household
pub record IsOf (known : Known) (household : ℕ) (r : Record) : Type 0 where
  pub household_is : r.household ≡ household
  pub next : IsNext known r

pub accepted_new : (known : Known) (asked : Command) (heading : Heading) (made : Option Record) (r : Record) → heading_of known asked ≡ Some heading →
    heading.corrects ≡ 0 → IsAccepted known asked made → made ≡ Some r → IsOf known heading.household r
accepted_new known asked heading made r own corrects_none accepted is =
    let own_heading : IsUnder known heading r = under_own known asked r (sym accepted.is_made ∙ is) heading own in
    let under : IsNextUnder known heading r = next_under known heading r own_heading in
    let none : r.corrects ≡ 0 = (under_it known heading heading r own_heading refl).1 ∙ corrects_none in
    record { household_is = under.household; next = next_of under (omega (arith, none, under.number)) }

rents_there : (units : List UnitRow) (rents : List RentRow) (unit day : ℕ) → (found : Option UnitRow) → unit_at units unit ≡ found → is_some found ≡ true →
    option_and_then (λ (row : UnitRow). refused_unless (is_some (rents_on rents row.group day)) (Refusal.NoRent row.group day)) found ≡ None →
    is_some (unit_rents_on units rents unit day) ≡ true
rents_there units rents unit day None is there none = absurd (cc)
rents_there units rents unit day (Some row) is there none = rw is (test_passed (is_some (rents_on rents row.group day)) _ none)

facts_there : (known : Known) (heading : Heading) (facts : Facts) → is_some known.plan ≡ true → is_some (rents_in_unit known heading.unit heading.from) ≡ true →
    is_some (made_of_facts known heading facts) ≡ true
facts_there known heading facts planned rents = grind (arith, common_steps, planned, rents)

plan_there : (act : Option ℕ) (there : Bool) → is_some act ≡ there → refused_if (not (is_some act)) Refusal.NoPlan ≡ None → there ≡ true
plan_there act there same none = grind (arith, common_steps, same, none)

module _ (known : Known) (same : is_some known.plan_act ≡ is_some known.plan) where
  new_makes : (facts : Facts) (heading : Heading) → refused_if (not (is_some known.plan_act)) Refusal.NoPlan ≡ None →
      refused_unless (is_some (unit_at known.units heading.unit)) (Refusal.NoSuch Named.Unit heading.unit) ≡ None → no_rent_on known heading ≡ None →
      is_some (made_of_facts known heading facts) ≡ true
  new_makes facts heading planned there rents =
      facts_there known heading facts (plan_there known.plan_act (is_some known.plan) same planned)
      (rents_there known.units known.rents heading.unit heading.from (unit_at known.units heading.unit) refl
      (test_passed (is_some (unit_at known.units heading.unit)) _ there) rents)

  pub start_makes : (start : StartAct) (made : Option Record) → IsAccepted known (Command.Start start) made →
      is_some (record_of known (Command.Start start)) ≡ true
  start_makes start made accepted =
      let about : Matter = matter_of known (Command.Start start) in
      new_makes start.facts _ (passes accepted).no_plan (are_there about (passes accepted).no_such).unit (passes accepted).no_rent

  pub admission_makes : (admit : AdmitAct) (made : Option Record) → IsAccepted known (Command.Admit admit) made →
      is_some (record_of known (Command.Admit admit)) ≡ true
  admission_makes admit made accepted =
      let about : Matter = matter_of known (Command.Admit admit) in
      new_makes admit.facts _ (passes accepted).no_plan (are_there about (passes accepted).no_such).unit (passes accepted).no_rent

-- ---- eligible members

-- of the family of the record that an accepted act makes some are eligible, and no more than it has members
pub fits : (known : Known) (asked : Command) (made : Option Record) (r : Record) (eligible : ℕ) → AllEligible known.eligible known.households →
    IsAccepted known asked made → made ≡ Some r → eligible ≡ eligible_next known asked made → AreEligible eligible r.size
fits known asked made r eligible all accepted is same =
    rw (same, is) (eligible_made known asked r all (passes accepted).facts_rule (sym accepted.is_made ∙ is))
