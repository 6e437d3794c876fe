-- What answers come to, in plain facts.
use Rattle.std.specs.Prelude.{◌≡◌, ◌≢◌, ◌↔◌, ◌⊎◌, ℕ, ◌+◌, ◌≤◌, ◌<◌, ◌+ℤ◌, List, length, Some, AllPairs, Contains, IsSomeAnd}
use Rattle.record_history.specs.{declared.records.Kind.Kind, declared.records.Record.Record, Records.in_force, Held.records_of}
use Rattle.voucher_core.specs.{declared.line.Line.Line, Lines.total}
use Rattle.admission_order.specs.Below.office_step.Refusals.{annual_right}
use Rattle.office_answers.specs.{declared.answer.DueDay.DueDay, DueList.due_list, Vouchers.voucher_of}

-- The household is there; the record in force for it on the day asked is neither a move-out nor a termination; and its next
-- annual certification is rightly due on that day, at most 120 days after the day asked.
pub record IsDue (households : List (List Record)) (asked : ℕ) (due : DueDay) : Type 0 where
  pub first : 1 ≤ due.household
  pub there : due.household ≤ length households
  pub assisted : IsSomeAnd (in_force (records_of households due.household) asked) (λ r. (r.kind ≢ Kind.MO) × (r.kind ≢ Kind.TM))
  pub rightful : annual_right (records_of households due.household) ≡ Some due.day
  pub soon : due.day ≤ asked + 120

-- it is due on an earlier day, or on the same day and of a lesser household
abbrev pub ComesBefore : DueDay → DueDay → Type 0
ComesBefore due next = (due.day < next.day) ⊎ ((due.day ≡ next.day) × (due.household < next.household))

-- it has exactly those that are due, in that order, so each once
pub record IsDueList (households : List (List Record)) (asked : ℕ) (dues : List DueDay) : Type 0 where
  pub listed : (due : DueDay) → Contains dues due ↔ IsDue households asked due
  pub order : AllPairs ComesBefore dues

abbrev pub DueListIsWhole : Type 0
DueListIsWhole = (households : List (List Record)) (asked : ℕ) → IsDueList households asked (due_list households asked)

-- what a voucher requests and what it adjusts come together to the amounts of its lines, and so does its total
abbrev pub VouchersTotal : Type 0
VouchersTotal = (month : ℕ) (lines : List Line) →
    ((voucher_of month lines).requested +ℤ (voucher_of month lines).adjustments ≡ total (voucher_of month lines).lines)
    × ((voucher_of month lines).total ≡ total (voucher_of month lines).lines)
