-- When an office refuses since somebody else is next for a unit, in plain facts alone (docs/REFUSALS.md, 18; docs/RULES.md,
-- "Who is next for a unit").
use Rattle.std.specs.Prelude.{◌≡◌, ◌≢◌, ◌↔◌, true, Option, Some, Contains}
use Rattle.rent_table.specs.{declared.plan.Plan.Plan, declared.rows.Unit.Unit as UnitRow}
use Rattle.wait_list.specs.{declared.ask.Candidate.Candidate, declared.targets.Targets.Targets, Next.Asked, RightfulNext.IsRightAnswer, Wanted.IsWanted}
use Rattle.book_rows.specs.{declared.command.Command.Command, Book.Book}
use Rattle.office_step.specs.{declared.call.Capacity.Capacity, declared.moving.MoveIn.MoveIn, declared.refusal.Refusal.Refusal, Against.not_next, Known.known_of, Matter.Matter, Matter.matter_of, Step.IsReached}
use Rattle.office_laws.specs.{Movers.IsAsked, Targets.AreCounted}

-- another than who moves is rightly next for the unit on the day, or nobody is: by the limits that stand, by the first of those
-- who would move, and by the admissions that the fiscal year counts
pub record TakesAnother (about : Matter) (refusal : Refusal) : Type 0 where
  pub plan : Plan
  pub moves : MoveIn
  pub unit : UnitRow
  pub asked : Asked
  pub targets : Targets
  pub next : Option Candidate
  pub told : refusal ≡ Refusal.NotNext next
  pub planned : about.known.plan ≡ Some plan
  pub moves_in : about.moves ≡ Some moves
  pub held : Contains about.known.units unit
  pub numbered : unit.number ≡ moves.unit
  pub is_asked : IsAsked about.known plan unit moves.from asked
  pub counted : AreCounted about.known plan moves.from targets
  pub wanted : (asked.wanted ≡ true) ↔ IsWanted targets
  pub rightly : IsRightAnswer targets asked about.known.waiting next
  pub another : next ≢ Some moves.candidate

abbrev pub TurnsArePlain : Type 0
TurnsArePlain = (capacity : Capacity) (book : Book) → IsReached capacity book → (asked : Command) (refusal : Refusal) →
    (not_next (matter_of (known_of book) asked) ≡ Some refusal) ↔ TakesAnother (matter_of (known_of book) asked) refusal
