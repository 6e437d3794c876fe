-- What was requested for a month, and what was paid (form HUD-52670 in outline).
use Rattle.std.specs.Prelude.{ℕ, ◌==◌, ◌&&◌, nat_le, not, if◌then◌else◌, Bool, false, Option, Some, None, Result, Ok, List, filter}
use Rattle.rent_table.specs.declared.plan.Plan.{Plan}
use Rattle.voucher_core.specs.{declared.line.Line.Line, Lines.total, Lines.paid}
use Rattle.admission_order.specs.Below.office_step.{declared.known.Closed.Closed, declared.refusal.Refusal.Refusal, Known.Known, Against.no_household}
use Rattle.office_answers.specs.{declared.answer.Answer.Answer, declared.answer.Voucher.Voucher, Answered.unless}

-- the month is closed: it lies between the plan's first and the last that was closed
abbrev pub is_closed : Option Plan → Option Closed → ℕ → Bool
is_closed (Some plan) (Some closing) month = nat_le plan.first month && nat_le month closing.month
is_closed _ _ month = false

-- the lines of the closing of the month, in their order
abbrev pub lines_of_closing : ℕ → List Line → List Line
lines_of_closing month lines = filter (λ line. line.month == month) lines

-- those of them that are for the month itself, and those that change earlier months
abbrev pub own_lines : ℕ → List Line → List Line
own_lines month lines = filter (λ line. line.for_month == month) (lines_of_closing month lines)

abbrev pub adjusting_lines : ℕ → List Line → List Line
adjusting_lines month lines = filter (λ line. not (line.for_month == month)) (lines_of_closing month lines)

abbrev pub voucher_of : ℕ → List Line → Voucher
voucher_of month lines = record {
  month = month;
  lines = lines_of_closing month lines;
  requested = total (own_lines month lines);
  adjustments = total (adjusting_lines month lines);
  total = total (lines_of_closing month lines);
}

-- the voucher of a month that is closed
abbrev pub voucher_answer : Known → List Line → ℕ → Result Answer Refusal
voucher_answer known lines month = Ok (Answer.Voucher (if is_closed known.plan known.closing month then Some (voucher_of month lines) else None))

-- what all lines pay a household that there is for the month
abbrev pub paid_answer : Known → List Line → ℕ → ℕ → Result Answer Refusal
paid_answer known lines household month = unless (no_household known household) (Ok (Answer.Paid (paid household month lines)))
