-- When the order of months stands against a closing, in plain facts (docs/REFUSALS.md, 21).
use Rattle.std.specs.Prelude.{ℕ, ◌≡◌, ◌≢◌, ◌↔◌, ◌+◌, ◌≤◌, ◌<◌, Option, Some, None}
use Rattle.days_core.specs.OfficeDays.{last_office_month}
use Rattle.rent_table.specs.declared.plan.Plan.{Plan}
use Rattle.office_step.specs.{declared.known.Closed.Closed, declared.refusal.Refusal.Refusal, Known.Known, Matter.Matter, Against.wrong_month}

-- the next month to close is the plan's first, and later the one after that which was closed last; there is none before the
-- plan, and once December 2099 is closed
pub record IsNextToClose (known : Known) (next : Option ℕ) : Type 0 where
  pub before : known.plan ≡ None → next ≡ None
  pub first : (plan : Plan) → known.plan ≡ Some plan → known.closing ≡ None → next ≡ Some plan.first
  pub after : (plan : Plan) (closing : Closed) → known.plan ≡ Some plan → known.closing ≡ Some closing → closing.month < last_office_month →
      next ≡ Some (closing.month + 1)
  pub over : (plan : Plan) (closing : Closed) → known.plan ≡ Some plan → known.closing ≡ Some closing → last_office_month ≤ closing.month → next ≡ None

-- 21: the month isn't that
pub record ClosesAnother (about : Matter) (refusal : Refusal) : Type 0 where
  pub month : ℕ
  pub next : Option ℕ
  pub told : refusal ≡ Refusal.WrongMonth next
  pub closes : about.month ≡ Some month
  pub its : IsNextToClose about.known next
  pub another : next ≢ Some month

abbrev pub WrongMonthIsPlain : Type 0
WrongMonthIsPlain = (about : Matter) (refusal : Refusal) → (wrong_month about ≡ Some refusal) ↔ ClosesAnother about refusal
