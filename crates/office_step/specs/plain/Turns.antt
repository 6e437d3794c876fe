-- When somebody else is next for a unit, in plain facts (docs/REFUSALS.md, 18; docs/RULES.md, "Who is next for a unit").
use Rattle.std.specs.Prelude.{◌≡◌, ◌≢◌, ◌↔◌, Option, Some, Contains}
use Rattle.rent_table.specs.{declared.plan.Plan.Plan, declared.rows.Unit.Unit as UnitRow, Table.limits_on}
use Rattle.wait_list.specs.{declared.ask.Candidate.Candidate, Waiting.ActsRise, RightfulNext.IsRightAnswer}
use Rattle.office_step.specs.{declared.moving.MoveIn.MoveIn, declared.refusal.Refusal.Refusal, Candidates.asked_of, Candidates.targets_of, Known.UnitsAreNumbered, Matter.Matter, Against.not_next}

-- 18: another than who moves is rightly next for the unit on the day, or nobody is
pub record PassesOver (about : Matter) (refusal : Refusal) : Type 0 where
  pub plan : Plan
  pub moves : MoveIn
  pub unit : UnitRow
  pub next : Option Candidate
  pub told : refusal ≡ Refusal.NotNext next
  pub planned : about.known.plan ≡ Some plan
  pub moves_in : about.moves ≡ Some moves
  pub held : Contains about.known.units unit
  pub numbered : unit.number ≡ moves.unit
  pub rightly : IsRightAnswer (targets_of plan moves.from about.known.households)
      (asked_of plan unit moves.from (limits_on about.known.limits moves.from) about.known.requests about.known.households) about.known.waiting next
  pub another : next ≢ Some moves.candidate

abbrev pub NotNextIsPlain : Type 0
NotNextIsPlain = (about : Matter) (refusal : Refusal) → UnitsAreNumbered about.known.units → ActsRise about.known.waiting →
    (not_next about ≡ Some refusal) ↔ PassesOver about refusal
