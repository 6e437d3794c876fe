-- The record of an act of a household corrects or withdraws an earlier one, or none.
use Rattle.std.proofs.Common.{◌≡◌, ◌∙◌, ap, ℕ, ◌+◌, ◌<◌, ◌==◌, Bool, true, false, Option, Some, None, refl, arith}
use Rattle.std.proofs.lemmas.Option.{same_Some}
use Rattle.list_laws.proofs.{Finds.find_holds, Options.option_map_some}
use Rattle.record_history.specs.{declared.records.Record.Record, Records.newest_number, Held.AreNumbered}
use Rattle.tenancy_rules.proofs.Numbers.{none_above}
use Rattle.book_rows.specs.declared.{command.Command.Command, household.HouseholdAct.HouseholdAct}
use Rattle.office_step.specs.{declared.heading.Heading.Heading, Known.Known, Known.own_in, Households.record_at, Matter.Matter, Matter.matter_of, Matter.own, Matter.certifies, Made.heading_with, Made.own_heading, Made.heading_over, Made.record_of}
use Rattle.office_step.proofs.Headed.{IsHeaded, IsUnder, IsNextUnder, made_is_headed, next_under, of_household}

-- what the record has of its heading
pub under_it : (known : Known) (own heading : Heading) (r : Record) → IsUnder known heading r → Some own ≡ Some heading →
    (r.kind ≡ own.kind) × (r.corrects ≡ own.corrects)
under_it known own heading r under same = rw (under.is, same_Some own heading same) (refl, refl)

-- the heading of a record that names another names that one
names_over : (about : Matter) (target : Record) (rests : Bool) → certifies about.basis ≡ rests → (heading_over about target).corrects ≡ target.number
names_over about target true is = rw is refl
names_over about target false is = rw is refl

pub names_earlier : (known : Known) (act : HouseholdAct) (r : Record) → record_of known (Command.Household act) ≡ Some r →
    AreNumbered (own_in known r.household) → r.corrects < r.number
names_earlier known act r is numbered = by_target about.target headed.is_its
  where
    about : Matter
    about = matter_of known (Command.Household act)

    headed : IsHeaded known (Command.Household act) r
    headed = made_is_headed known (Command.Household act) r is

    next : IsNextUnder known headed.heading r
    next = next_under known headed.heading r headed.under

    names : (heading : Heading) → Some heading ≡ Some headed.heading → r.corrects ≡ heading.corrects
    names heading same = (under_it known heading headed.heading r headed.under same).1

    by_target : (target : Option ℕ) → heading_with about target ≡ Some headed.heading → r.corrects < r.number
    by_target None is_its =
        option_map_some (own_heading about) about.kind headed.heading is_its (λ kind found same.
        omega (arith, names (own_heading about kind) (ap (λ (h : Heading). Some h) same), next.number))
    by_target (Some number) is_its =
        option_map_some (heading_over about) (record_at (own about) number) headed.heading is_its (λ target found same.
        (let its : r.household ≡ act.household = next.household ∙ of_household about headed.heading headed.is_its in
        let below = find_holds (λ (held : Record). held.number == number) (λ (held : Record). held.number < newest_number (own_in known r.household) + 1)
        (own_in known r.household) target (rw its found) (none_above (own_in known r.household) numbered) in
        omega (arith, names (heading_over about target) (ap (λ (h : Heading). Some h) same), names_over about target (certifies about.basis) refl, next.number, below.0)))
