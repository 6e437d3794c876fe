-- At each closing every record in force has its unit's rents.
use Rattle.office_laws.proofs.Words.{◌≡◌, sym, ap, refl, subst, ℕ, ◌≤◌, arith, Bool, true, false, not, ◌&&◌, List, [], Option, Some, None, All, IfSome, filter, is_some, nat_le, option_map_or, leb-true, append-nil, All-filter, filter_passes, Rents, Kind, Record, is_withdrawal, is_live, live_records, comes_before, in_force, Plan, unit_at, UnitRow, ends_assistance, unit_rents_on, are_other_rents, has_stale_rents, Command, Known, known_of, own_in, matter_of, is_plan, HasItsRents, RentsAreDoneAtClosings, latest-among, common_steps, nat_tests}
use Rattle.std.proofs.Common.{◌≢◌}
use Rattle.std.specs.Prelude.{Contains}
use Rattle.record_history.specs.{Law.IsInForceOn, Held.AreNumbered}
use Rattle.record_history.proofs.ForceLemmas.{one_now}
use Rattle.rent_table.specs.Table.{RentActsRise, rents_on}
use Rattle.rent_table.proofs.StandingLemmas.{row_sets_rents}
use Rattle.office_step.specs.{Known.UnitsAreNumbered, plain.Acceptance.IsSound}
use Rattle.office_step.proofs.{Exactly.Options.and_then-some, Exactly.Numbered.found_by_number, NoneStale.none_stale}
use Rattle.office_laws.specs.Closing.{HasRentsOfItsUnit}
use Rattle.office_laws.proofs.{Inversion.passes, AllSound.reached_books_are_sound, Fitting.goes_on, InOrder.own_in_order, Reached.plan_there, RentsStand.BeganWithRents, RentsStand.rents-later, RentsStand.began_with_rents}

-- the record in force has begun, certifies unless it ends assistance, and its unit had rents when it began
abbrev Begun : Known → ℕ → Record → Type 0
Begun known day r = BeganWithRents known r × (r.from ≤ day) × (is_withdrawal r.kind ≡ false)

in_force_begun : (known : Known) (own : List Record) (day : ℕ) → All (BeganWithRents known) own → IfSome (in_force own day) (Begun known day)
in_force_begun known own day began =
    latest-among comes_before (Begun known day) None (filter by_then (live_records own)) tt
    (λ k d within. (
      All-filter by_then (BeganWithRents known) (live_records own) (All-filter (is_live own) (BeganWithRents known) own began) k d within,
      leb-true _ day (filter_passes by_then (live_records own) k d within),
      grind (arith, common_steps, All-filter by_then (λ r. is_live own r ≡ true) (live_records own) (filter_passes (is_live own) own) k d within),
    ))
  where
    by_then : Record → Bool
    by_then r = nat_le r.from day

-- rents that aren't other are the same
same_rents : (own : Rents) (found : Option Rents) → is_some found ≡ true → option_map_or (are_other_rents own) found false ≡ false → found ≡ Some own
same_rents own None some fresh = absurd (cc)
same_rents own (Some rents) some fresh =
    let contract : rents.contract_rent ≡ own.contract_rent = grind (arith, common_steps, nat_tests, fresh) in
    let utility : rents.utility ≡ own.utility = grind (arith, common_steps, nat_tests, fresh) in
    λ i. Some (record { contract_rent = contract i; utility = utility i })

its_rents : (known : Known) (day : ℕ) (held : Option Record) → IfSome held (Begun known day) →
    option_map_or (λ (r : Record). not (ends_assistance r.kind) && has_stale_rents known.units known.rents day r) held false ≡ false →
    IfSome held (λ r. ends_assistance r.kind ≡ false → unit_rents_on known.units known.rents r.unit day ≡ Some r.rents)
its_rents known day None begun fresh = tt
its_rents known day (Some r) (began, from, certifying) fresh = λ ends.
    same_rents r.rents (unit_rents_on known.units known.rents r.unit day)
    (rw (append-nil known.units, append-nil known.rents) at
    (rents-later known.units [] known.rents [] r.unit r.from day from (began (rw (ends, certifying) refl))))
    (rw ends at fresh)

-- ---- in plain facts

module _ (known : Known) (household day : ℕ) (numbered : AreNumbered (own_in known household)) (units : UnitsAreNumbered known.units) (rise : RentActsRise known.rents) where
  of_its_unit : (r : Record) → unit_rents_on known.units known.rents r.unit day ≡ Some r.rents → HasRentsOfItsUnit known day r
  of_its_unit r has =
      let of = and_then-some (λ (unit : UnitRow). rents_on known.rents unit.group day) (unit_at known.units r.unit) r.rents has in
      let unit : UnitRow = of.0 in
      let there = (found_by_number known.units r.unit unit units).0 of.1 in
      let stands = (row_sets_rents known.rents unit.group day r.rents rise).0 of.2 in
      record { unit = unit; row = stands.0; held = there.0; numbered = there.1; sets = stands.1; same = stands.2 }

  plainly : IfSome (in_force (own_in known household) day) (λ r. ends_assistance r.kind ≡ false → unit_rents_on known.units known.rents r.unit day ≡ Some r.rents) →
      (r : Record) → IsInForceOn (Contains (own_in known household)) day r → r.kind ≢ Kind.MO → r.kind ≢ Kind.TM → HasRentsOfItsUnit known day r
  plainly judged r is stays assisted =
      let found : in_force (own_in known household) day ≡ Some r = ((one_now (own_in known household) day numbered).some r).1 is in
      of_its_unit r
      (subst (λ (held : Option Record). IfSome held (λ r. ends_assistance r.kind ≡ false → unit_rents_on known.units known.rents r.unit day ≡ Some r.rents)) found judged
      (goes_on r.kind stays assisted))

pub rents_are_done_at_closings : RentsAreDoneAtClosings
rents_are_done_at_closings capacity book rows reached appends close closes =
    let plan = plan_there capacity book rows reached appends (ap is_plan closes) in
    let sound : IsSound (matter_of (known_of book) (Command.Close close)) = reached_books_are_sound capacity book reached (Command.Close close) in
    subst (λ (found : Option Plan). IfSome found (HasItsRents (known_of book) close.month)) (sym plan.1) (λ household day r from to.
    plainly (known_of book) household day (own_in_order capacity book reached household).numbered sound.numbered sound.rents
    (its_rents (known_of book) day (in_force (own_in (known_of book) household) day)
    (in_force_begun (known_of book) (own_in (known_of book) household) day (began_with_rents capacity book reached household))
    (none_stale (known_of book) close.month (rw closes at (passes capacity book rows appends).rent_due) household day (rw plan.1 from) to)) r)
