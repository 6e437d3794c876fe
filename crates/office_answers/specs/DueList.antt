-- Which annual certifications are due, seen from a day (Handbook 4350.3, chapter 7, in outline; how far ahead: own rule).
use Rattle.std.specs.Prelude.{ℕ, ◌+◌, ◌==◌, nat_le, not, if◌then◌else◌, Bool, false, Option, Some, None, option_and_then, Result, List, length, filter}
use Rattle.std.specs.{List.range_with_len, List.filter_map, List.flat_map, Option.option_map_or}
use Rattle.record_history.specs.{declared.records.Record.Record, Records.in_force, Held.records_of}
use Rattle.due_dates.specs.Stale.{ends_assistance}
use Rattle.admission_order.specs.Below.office_step.{declared.refusal.Refusal.Refusal, Known.Known, Refusals.annual_right}
use Rattle.office_answers.specs.{declared.answer.Answer.Answer, declared.answer.DueDay.DueDay, Answered.answered}

-- the record in force on the day is there, and is neither a move-out nor a termination
abbrev pub is_assisted_on : List Record → ℕ → Bool
is_assisted_on own day = option_map_or (λ r. not (ends_assistance r.kind)) (in_force own day) false

-- the last day that is looked at: 120 days after the day
abbrev pub horizon : ℕ → ℕ
horizon day = day + 120

abbrev pub due_by : ℕ → ℕ → ℕ → Option DueDay
due_by last household due = if nat_le due last then Some (record { day = due; household = household }) else None

-- the rightful day of the household's next annual certification, where it is assisted on the day and that one comes no
-- later than 120 days after it
abbrev pub due_of : List (List Record) → ℕ → ℕ → Option DueDay
due_of households day household =
    if is_assisted_on (records_of households household) day
    then option_and_then (due_by (horizon day) household) (annual_right (records_of households household))
    else None

-- those of all households, in the order of their numbers
abbrev pub due_days : List (List Record) → ℕ → List DueDay
due_days households day = filter_map (due_of households day) (range_with_len 1 (length households))

-- those of one day
abbrev pub due_on : List DueDay → ℕ → List DueDay
due_on dues day = filter (λ due. due.day == day) dues

-- the same day after day, up to that one
abbrev pub day_by_day : ℕ → List DueDay → List DueDay
day_by_day last dues = flat_map (due_on dues) (range_with_len 0 (last + 1))

abbrev pub due_list : List (List Record) → ℕ → List DueDay
due_list households day = day_by_day (horizon day) (due_days households day)

abbrev pub due_answer : Known → ℕ → Result Answer Refusal
due_answer known day = answered (λ plan. Answer.Due (due_list known.households day)) known.plan Refusal.NoPlan
