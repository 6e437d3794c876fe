-- When a unit's name, or how many persons it is for, stands against an act, in plain facts (docs/REFUSALS.md, 15 and 16).
use Rattle.std.specs.Prelude.{ℕ, ◌≡◌, ◌↔◌, ◌<◌, ◌⊎◌, Some, List, Contains, slice_get}
use Rattle.record_history.specs.declared.records.Record.{Record}
use Rattle.rent_table.specs.{declared.plan.Bound.Bound, declared.plan.Plan.Plan, declared.rows.Unit.Unit as UnitRow, Table.HaveOwnNames}
use Rattle.office_step.specs.{declared.moving.MoveIn.MoveIn, declared.refusal.Refusal.Refusal, Known.UnitsAreNumbered, Matter.Matter, Made.record_in, Against.name_taken, Against.size_misfit}

-- 15: a unit has the name already
pub record TakesName (about : Matter) (refusal : Refusal) : Type 0 where
  pub name : List ℕ
  pub unit : UnitRow
  pub told : refusal ≡ Refusal.NameTaken unit.number
  pub enters : about.name ≡ Some name
  pub held : Contains about.known.units unit
  pub same : unit.name ≡ name

abbrev pub NameTakenIsPlain : Type 0
NameTakenIsPlain = (about : Matter) (refusal : Refusal) → HaveOwnNames about.known.units → (name_taken about ≡ Some refusal) ↔ TakesName about refusal

-- 16: the persons of the record are fewer or more than the plan has for units of so many bedrooms
pub record IsForOthers (about : Matter) (refusal : Refusal) : Type 0 where
  pub plan : Plan
  pub moves : MoveIn
  pub unit : UnitRow
  pub made : Record
  pub told : refusal ≡ Refusal.SizeMisfit unit.number made.persons
  pub planned : about.known.plan ≡ Some plan
  pub moves_in : about.moves ≡ Some moves
  pub held : Contains about.known.units unit
  pub numbered : unit.number ≡ moves.unit
  pub makes : record_in about ≡ Some made
  pub outside : (bound : Bound) → slice_get plan.bounds unit.bedrooms ≡ Some bound → (made.persons < bound.least) ⊎ (bound.most < made.persons)

abbrev pub SizeMisfitIsPlain : Type 0
SizeMisfitIsPlain = (about : Matter) (refusal : Refusal) → UnitsAreNumbered about.known.units → (size_misfit about ≡ Some refusal) ↔ IsForOthers about refusal
