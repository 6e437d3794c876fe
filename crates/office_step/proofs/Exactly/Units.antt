-- 15 and 16: a unit's name, and how many persons it is for.
use Rattle.std.proofs.Common.{◌≡◌, ◌∙◌, sym, ap, refl, ℕ, zero, suc, ◌<◌, ◌⊎◌, inl, inr, arith, Bool, false, List, [], ◌∷◌, Some, ◌&&◌, nat_le}
use Rattle.std.specs.Prelude.{option_and_then, slice_get, slice_index_or}
use Rattle.std.specs.Option.{option_map}
use Rattle.std.proofs.lemmas.{Option.same_Some, Option.none-some}
use Rattle.std.proofs.lemmas.Bool.{leb-false, lt-leb, and_cases, and_left, and_right, Decides.nat_tests}
use Rattle.record_history.specs.declared.records.Record.{Record}
use Rattle.rent_table.specs.{declared.plan.Bound.Bound, declared.plan.Plan.Plan, declared.rows.Unit.Unit as UnitRow, Admission.suits, Table.unit_at, Table.unit_named}
use Rattle.rent_table.proofs.FoundLemmas.{found_by_name}
use Rattle.office_step.specs.{declared.moving.MoveIn.MoveIn, declared.refusal.Refusal.Refusal, Matter.Matter, Made.record_in, Refusals.refused_unless, Against.Moving, Against.moving_on, Against.moving_of}
use Rattle.office_step.proofs.Exactly.Numbered.{found_by_number}
use Rattle.office_step.proofs.Exactly.Options.{refused_unless-some, and_then-some, map-some, refused_unless-from, and_then-from, map-from}
use Rattle.office_step.specs.plain.Units.{NameTakenIsPlain, SizeMisfitIsPlain}

pub name_taken_is_plain : NameTakenIsPlain
name_taken_is_plain about refusal own = (
  λ is. (let enters = and_then-some (λ (name : List ℕ). option_map (λ unit. Refusal.NameTaken unit) (unit_named about.known.units name)) about.name refusal is in
      let taken = map-some (λ (unit : ℕ). Refusal.NameTaken unit) (unit_named about.known.units enters.0) refusal enters.2 in
      let by = (found_by_name about.known.units enters.0 taken.0 own).0 taken.1 in
      record { name = enters.0; unit = by.0; told = taken.2 ∙ ap (λ (unit : ℕ). Refusal.NameTaken unit) (sym by.3); enters = enters.1; held = by.1; same = by.2 }),
  λ at. (let found = (found_by_name about.known.units at.name at.unit.number own).1 (at.unit, at.held, at.same, refl) in rw (at.enters, found, at.told) refl),
)

-- ---- persons

-- they lie outside the bounds that the plan has at a place, where bounds that allow nobody stand for none
abbrev IsOutside : List Bound → ℕ → ℕ → Type 0
IsOutside bounds place persons = (bound : Bound) → slice_get bounds place ≡ Some bound → (persons < bound.least) ⊎ (bound.most < persons)

abbrev lies_within : Bound → ℕ → Bool
lies_within bound persons = nat_le bound.least persons && nat_le persons bound.most

outside : (bounds : List Bound) (place persons : ℕ) → lies_within (slice_index_or bounds place (record { least = 1; most = 0 })) persons ≡ false → IsOutside bounds place persons
outside [] place persons is bound at = absurd (none-some bound at)
outside (first ∷ bounds) zero persons is bound at =
    let same : first ≡ bound = same_Some first bound at in
    let its = ap (λ (b : Bound). lies_within b persons) (sym same) ∙ is in
    elim (and_cases (nat_le bound.least persons) (nat_le persons bound.most) its) [
      | inl low ↦ inl (leb-false bound.least persons low)
      | inr high ↦ inr (leb-false persons bound.most high)
    ]
outside (first ∷ bounds) (suc place) persons is bound at = outside bounds place persons is bound at

fails : (bounds : List Bound) (place persons : ℕ) → IsOutside bounds place persons → lies_within (slice_index_or bounds place (record { least = 1; most = 0 })) persons ≡ false
fails [] place persons out = grind (arith, nat_tests)
fails (first ∷ bounds) zero persons out = elim (out first refl) [
  | inl low ↦ and_left (nat_le first.least persons) (nat_le persons first.most) (lt-leb first.least persons low)
  | inr high ↦ and_right (nat_le first.least persons) (nat_le persons first.most) (lt-leb persons first.most high)
]
fails (first ∷ bounds) (suc place) persons out = fails bounds place persons out

-- ---- a move

-- the move that the act is about, with its plan and its unit
pub record IsMove (about : Matter) (move : Moving) : Type 0 where
  pub moves : MoveIn
  pub planned : about.known.plan ≡ Some move.plan
  pub moves_in : about.moves ≡ Some moves
  pub at : unit_at about.known.units moves.unit ≡ Some move.unit
  pub candidate : move.candidate ≡ moves.candidate
  pub from_day : move.from ≡ moves.from

pub is_move : (about : Matter) (move : Moving) → moving_of about ≡ Some move → IsMove about move
is_move about move is =
    let planned = and_then-some (λ (plan : Plan). option_and_then (λ moves. moving_on about.known moves plan) about.moves) about.known.plan move is in
    let plan : Plan = planned.0 in
    let moves = and_then-some (λ (moves : MoveIn). moving_on about.known moves plan) about.moves move planned.2 in
    let moves_in : MoveIn = moves.0 in
    let at = map-some (λ (unit : UnitRow). let move : Moving = record { plan = plan; unit = unit; candidate = moves_in.candidate; from = moves_in.from } in move)
    (unit_at about.known.units moves_in.unit) move moves.2 in record {
      moves = moves_in;
      planned = planned.1 ∙ ap (λ (m : Moving). Some m.plan) (sym at.2);
      moves_in = moves.1;
      at = at.1 ∙ ap (λ (m : Moving). Some m.unit) (sym at.2);
      candidate = ap (λ (m : Moving). m.candidate) at.2;
      from_day = ap (λ (m : Moving). m.from) at.2;
    }

pub moving : (about : Matter) (move : Moving) (moves : MoveIn) → about.known.plan ≡ Some move.plan → about.moves ≡ Some moves →
    unit_at about.known.units moves.unit ≡ Some move.unit → move.candidate ≡ moves.candidate → move.from ≡ moves.from → moving_of about ≡ Some move
moving about move moves planned moves_in at candidate from_day =
    and_then-from (λ (plan : Plan). option_and_then (λ moves. moving_on about.known moves plan) about.moves) about.known.plan move.plan move planned
    (and_then-from (λ (moves : MoveIn). moving_on about.known moves move.plan) about.moves moves move moves_in
    (map-from (λ (unit : UnitRow). let move : Moving = record { plan = move.plan; unit = unit; candidate = moves.candidate; from = moves.from } in move)
    (unit_at about.known.units moves.unit) move.unit move at
    (λ i. record { plan = move.plan; unit = move.unit; candidate = candidate i; from = from_day i })))

pub size_misfit_is_plain : SizeMisfitIsPlain
size_misfit_is_plain about refusal numbered = (
  λ is. (let moves = and_then-some (λ (move : Moving). option_and_then (λ made. refused_unless (suits move.plan move.unit made.persons) (Refusal.SizeMisfit move.unit.number made.persons)) (record_in about)) (moving_of about) refusal is in
      let move : Moving = moves.0 in
      let its = is_move about move moves.1 in
      let makes = and_then-some (λ (made : Record). refused_unless (suits move.plan move.unit made.persons) (Refusal.SizeMisfit move.unit.number made.persons)) (record_in about) refusal moves.2 in
      let made : Record = makes.0 in
      let has = refused_unless-some (suits move.plan move.unit made.persons) (Refusal.SizeMisfit move.unit.number made.persons) refusal makes.2 in
      let there = (found_by_number about.known.units its.moves.unit move.unit numbered).0 its.at in record {
        plan = move.plan;
        moves = its.moves;
        unit = move.unit;
        made = made;
        told = has.1;
        planned = its.planned;
        moves_in = its.moves_in;
        held = there.0;
        numbered = there.1;
        makes = makes.1;
        outside = outside move.plan.bounds move.unit.bedrooms made.persons has.0;
      }),
  λ at. (let there = (found_by_number about.known.units at.moves.unit at.unit numbered).1 (at.held, at.numbered) in
      let move : Moving = record { plan = at.plan; unit = at.unit; candidate = at.moves.candidate; from = at.moves.from } in
      and_then-from (λ (move : Moving). option_and_then (λ made. refused_unless (suits move.plan move.unit made.persons) (Refusal.SizeMisfit move.unit.number made.persons)) (record_in about))
      (moving_of about) move refusal (moving about move at.moves at.planned at.moves_in there refl refl)
      (and_then-from (λ (made : Record). refused_unless (suits at.plan at.unit made.persons) (Refusal.SizeMisfit at.unit.number made.persons)) (record_in about) at.made refusal at.makes
      (refused_unless-from (suits at.plan at.unit at.made.persons) (Refusal.SizeMisfit at.unit.number at.made.persons) refusal
      (fails at.plan.bounds at.unit.bedrooms at.made.persons at.outside) at.told))),
)
