-- What an office answers to a question.
use Rattle.std.specs.{Prelude.ℕ, Prelude.Option, Prelude.Result, Prelude.Err, Prelude.List, Option.option_map_or}
use Rattle.rent_table.specs.{declared.plan.Plan.Plan, declared.rows.Unit.Unit as UnitRow, Table.unit_at, Table.limits_on}
use Rattle.wait_list.specs.{declared.ask.Candidate.Candidate, Next.next_candidate}
use Rattle.voucher_core.specs.declared.line.Line.{Line}
use Rattle.book_rows.specs.Book.{Book}
use Rattle.admission_order.specs.Below.office_step.{declared.refusal.Refusal.Refusal, Known.Known, Known.known_of, Candidates.asked_of, declared.refusal.Named.Named}
use Rattle.questions.specs.declared.question.Question.{Question}
use Rattle.office_answers.specs.{declared.answer.Answer.Answer, Answered.answered, Households.household_answer, Households.record_answer, Vouchers.voucher_answer, Vouchers.paid_answer, DueList.due_answer, FiscalYear.targets_answer}

-- who is next for the unit on the day
abbrev pub next_in : Known → Plan → ℕ → UnitRow → Option Candidate
next_in known plan day unit = next_candidate (asked_of plan unit day (limits_on known.limits day) known.requests known.households) known.waiting

abbrev pub next_answer : Known → ℕ → ℕ → Result Answer Refusal
next_answer known unit day =
    option_map_or
    (λ plan. answered (λ row. Answer.Next (next_in known plan day row)) (unit_at known.units unit) (Refusal.NoSuch Named.Unit unit))
    known.plan (Err Refusal.NoPlan)

-- by what is known, and by all lines
abbrev pub answer_by : Known → List Line → Question → Result Answer Refusal
answer_by known lines (Question.Household household) = household_answer known household
answer_by known lines (Question.Record household number) = record_answer known household number
answer_by known lines (Question.Next unit day) = next_answer known unit day
answer_by known lines (Question.Voucher month) = voucher_answer known lines month
answer_by known lines (Question.Paid household month) = paid_answer known lines household month
answer_by known lines (Question.Due day) = due_answer known day
answer_by known lines (Question.Targets day) = targets_answer known day

-- by the book
abbrev pub answer_to : Book → Question → Result Answer Refusal
answer_to book asked = answer_by (known_of book) book.lines asked
