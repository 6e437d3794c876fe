-- When rents are stale, in plain facts.
use Rattle.due_dates.proofs.Words.{◌≡◌, ◌≢◌, ◌∙◌, sym, ap, refl, ℕ, Bool, true, false, Option, Some, None, List, arith, not, ◌&&◌, nat_tests, common_steps, ends_assistance, unit_rents_on, are_other_rents, is_rent_stale_on}
use Rattle.std.specs.Prelude.{◌↔◌}
use Rattle.std.specs.Option.{option_map_or, option_and_then}
use Rattle.days_core.specs.declared.rents.Rents.{Rents}
use Rattle.record_history.specs.{declared.records.Kind.Kind, declared.records.Record.Record, Records.in_force}
use Rattle.rent_table.specs.{declared.rows.Unit.Unit as UnitRow, declared.rows.RentRow.RentRow, Table.unit_at, Table.rents_on}
use Rattle.due_dates.specs.Law.{IsByOtherRents}
use Rattle.std.proofs.lemmas.Bool.{false≢true}

-- what a record certifies ends with a move-out or a termination alone
ends : (kind : Kind) → ends_assistance kind ≡ false → (kind ≢ Kind.MO) × (kind ≢ Kind.TM)
ends kind goes_on = (λ is. false≢true (sym goes_on ∙ ap ends_assistance is), λ is. false≢true (sym goes_on ∙ ap ends_assistance is))

goes_on : (kind : Kind) → kind ≢ Kind.MO → kind ≢ Kind.TM → ends_assistance kind ≡ false
goes_on Kind.MO no_move_out no_termination = absurd (no_move_out refl)
goes_on Kind.TM no_move_out no_termination = absurd (no_termination refl)
goes_on _ no_move_out no_termination = refl

-- rents are others where one of the two is
are_others : (rents other : Rents) → are_other_rents rents other ≡ true → rents ≢ other
are_others rents other are same = grind (arith, nat_tests, are, ap (λ (r : Rents). r.contract_rent) same, ap (λ (r : Rents). r.utility) same)

others : (rents other : Rents) → rents ≢ other → are_other_rents rents other ≡ true
others rents other apart =
    let both : rents.contract_rent ≡ other.contract_rent → rents.utility ≡ other.utility → rents ≡ other = λ contract utility. (λ i. record { contract_rent = contract i; utility = utility i }) in
    grind (arith, nat_tests, common_steps, both, apart)

tests : (ended stale : Bool) → (not ended && stale) ≡ true → (ended ≡ false) × (stale ≡ true)
tests ended stale is = grind (arith, common_steps, is)

module _ (records : List Record) (units : List UnitRow) (rows : List RentRow) (day : ℕ) where
  by_facts : (certified : Option Record) → in_force records day ≡ certified →
      option_map_or (λ r. not (ends_assistance r.kind) && option_map_or (are_other_rents r.rents) (unit_rents_on units rows r.unit day) false) certified false ≡ true →
      IsByOtherRents records units rows day
  by_facts None stands is = absurd (false≢true is)
  by_facts (Some r) stands is = by_unit (unit_at units r.unit) refl parts.1
    where
      parts : (ends_assistance r.kind ≡ false) × (option_map_or (are_other_rents r.rents) (unit_rents_on units rows r.unit day) false ≡ true)
      parts = tests _ _ is

      by_rents : (unit : UnitRow) → unit_at units r.unit ≡ Some unit → (rents : Option Rents) → rents_on rows unit.group day ≡ rents →
          option_map_or (are_other_rents r.rents) rents false ≡ true → IsByOtherRents records units rows day
      by_rents unit of_unit None on_day is = absurd (false≢true is)
      by_rents unit of_unit (Some rents) on_day is = record {
        certified = r;
        unit = unit;
        rents = rents;
        stands = stands;
        no_move_out = (ends r.kind parts.0).0;
        no_termination = (ends r.kind parts.0).1;
        of_unit = of_unit;
        on_day = on_day;
        others = are_others r.rents rents is;
      }

      by_unit : (unit : Option UnitRow) → unit_at units r.unit ≡ unit →
          option_map_or (are_other_rents r.rents) (option_and_then (λ unit. rents_on rows unit.group day) unit) false ≡ true → IsByOtherRents records units rows day
      by_unit None of_unit is = absurd (false≢true is)
      by_unit (Some unit) of_unit is = by_rents unit of_unit (rents_on rows unit.group day) refl is

  pub stale_by_facts : (is_rent_stale_on records units rows day ≡ true) ↔ IsByOtherRents records units rows day
  stale_by_facts = (
    by_facts (in_force records day) refl,
    λ by. rw (by.stands, by.of_unit, by.on_day, goes_on by.certified.kind by.no_move_out by.no_termination) (others by.certified.rents by.rents by.others),
  )
