-- The record of an act stands under the act's heading.
use Rattle.std.proofs.Common.{◌≡◌, ◌∙◌, sym, ap, refl, subst, ℕ, ◌+◌, Bool, true, false, Option, Some, None, if◌then◌else◌}
use Rattle.std.proofs.lemmas.Option.{option_and_then_some, same_Some}
use Rattle.list_laws.proofs.Options.{option_map_some}
use Rattle.record_history.specs.{declared.records.Record.Record, Records.newest_number}
use Rattle.rent_table.specs.Table.{limits_on}
use Rattle.certified_figures.specs.{Figures.figures_of, Figures.carried_figures, Figures.no_figures, declared.figures.Figures.Figures}
use Rattle.book_rows.specs.declared.{command.Command.Command, household.HouseholdAct.HouseholdAct, household.HouseholdChange.HouseholdChange}
use Rattle.office_step.specs.{declared.heading.Heading.Heading, Known.Known, Known.own_in, Households.record_at, Households.continued, Eligible.eligible_of_record}
use Rattle.office_step.specs.Matter.{Matter, Basis, from_facts, carried, nothing, certifies, matter_of, household_of, own, begins_on}
use Rattle.office_step.specs.Made.{rents_in_unit, made_with, told_extremely_low, made_on, heading_in, heading_with, heading_of, own_heading, heading_over, correction_heading, withdrawal_heading, record_of}

-- the record under the heading, with some figures
pub record IsUnder (known : Known) (heading : Heading) (r : Record) : Type 0 where
  pub extremely : Bool
  pub figures : Figures
  pub is : r ≡ made_with known heading extremely figures

-- the record of an act is under the heading of the act
pub record IsHeaded (known : Known) (asked : Command) (r : Record) : Type 0 where
  pub heading : Heading
  pub is_its : heading_of known asked ≡ Some heading
  pub under : IsUnder known heading r

pub under : (known : Known) (basis : Basis) (heading : Heading) (r : Record) → made_on known basis heading ≡ Some r → IsUnder known heading r
under known (from_facts facts) heading r is =
    option_and_then_some _ known.plan r is (λ plan given of_plan.
    option_map_some _ (rents_in_unit known heading.unit heading.from) r of_plan (λ rents stand same.
    record {
      extremely = told_extremely_low heading.kind (limits_on known.limits heading.from) (figures_of facts heading.from plan.passbook rents);
      figures = figures_of facts heading.from plan.passbook rents;
      is = sym same;
    }))
under known carried heading r is =
    option_and_then_some _ (continued (own_in known heading.household) heading.from) r is (λ held continues of_held.
    option_map_some _ (rents_in_unit known heading.unit heading.from) r of_held (λ rents stand same.
    record { extremely = false; figures = carried_figures held (eligible_of_record known.eligible held) rents; is = sym same }))
under known nothing heading r is = record { extremely = false; figures = no_figures; is = sym (same_Some _ r is) }

pub made_is_headed : (known : Known) (asked : Command) (r : Record) → record_of known asked ≡ Some r → IsHeaded known asked r
made_is_headed known asked r is =
    let about : Matter = matter_of known asked in
    option_and_then_some (made_on known about.basis) (heading_in about) r is (λ heading found made.
    record { heading = heading; is_its = found; under = under known about.basis heading r made })

-- the record under its act's own heading
pub under_own : (known : Known) (asked : Command) (r : Record) → record_of known asked ≡ Some r → (own : Heading) → heading_of known asked ≡ Some own →
    IsUnder known own r
under_own known asked r is own is_own =
    let headed : IsHeaded known asked r = made_is_headed known asked r is in
    subst (λ (heading : Heading). IsUnder known heading r) (same_Some headed.heading own (sym headed.is_its ∙ is_own)) headed.under

-- a record under a heading is the next of its household, by the next act
pub record IsNextUnder (known : Known) (heading : Heading) (r : Record) : Type 0 where
  pub household : r.household ≡ heading.household
  pub number : r.number ≡ newest_number (own_in known r.household) + 1
  pub act : r.act ≡ known.count + 1

pub next_under : (known : Known) (heading : Heading) (r : Record) → IsUnder known heading r → IsNextUnder known heading r
next_under known heading r under =
    subst (λ (r : Record). IsNextUnder known heading r) (sym under.is) (record { household = refl; number = refl; act = refl })

-- ---- households

-- what an act would be about with that change
abbrev pub changing : Known → HouseholdAct → HouseholdChange → Matter
changing known act done = matter_of known (Command.Household (record { household = act.household; seen = act.seen; change = done }))

household_over : (about : Matter) (target : Record) (rests : Bool) →
    (if rests then correction_heading (household_of about) target (begins_on about) else withdrawal_heading (household_of about) target).household ≡ household_of about
household_over about target true = refl
household_over about target false = refl

-- a record is of the household that its command is about
pub of_household : (about : Matter) (heading : Heading) → heading_in about ≡ Some heading → heading.household ≡ household_of about
of_household about heading is = by_target about.target is
  where
    by_target : (target : Option ℕ) → heading_with about target ≡ Some heading → heading.household ≡ household_of about
    by_target None is = option_map_some (own_heading about) about.kind heading is (λ kind found same. sym (ap (λ (h : Heading). h.household) same))
    by_target (Some number) is =
        option_map_some (heading_over about) (record_at (own about) number) heading is (λ target found same.
        ap (λ (h : Heading). h.household) (sym same) ∙ household_over about target (certifies about.basis))
