-- How far the office is with the admissions of a fiscal year (24 CFR 5.653; the counts are own rules).
use Rattle.std.specs.Prelude.{ℕ, ◌+◌, ◌-◌, ◌*◌, Result}
use Rattle.days_core.specs.Calendar.{month_of, first_of}
use Rattle.rent_table.specs.declared.plan.Plan.{Plan}
use Rattle.wait_list.specs.{declared.targets.Targets.Targets, Target.is_target_open}
use Rattle.admission_order.specs.Below.office_step.{declared.refusal.Refusal.Refusal, Known.Known, Candidates.fiscal_year, Candidates.targets_of}
use Rattle.office_answers.specs.{declared.answer.Answer.Answer, declared.answer.Admissions.Admissions, Answered.answered}

-- the month with which the fiscal year of a month begins, and 1880-01 where that is earlier
abbrev pub first_fiscal_month : Plan → ℕ → ℕ
first_fiscal_month plan month = 12 * fiscal_year plan month + plan.fiscal_month - 13

-- the first day of the fiscal year of the day
abbrev pub first_fiscal_day : Plan → ℕ → ℕ
first_fiscal_day plan day = first_of (first_fiscal_month plan (month_of day))

-- the admissions of the year, as they count for its target
abbrev pub admissions_by : Plan → ℕ → Targets → Admissions
admissions_by plan day targets = record {
  first_day = first_fiscal_day plan day;
  expected = targets.expected;
  admitted = targets.admitted;
  extremely_low = targets.extremely;
  opened = is_target_open targets;
}

abbrev pub targets_answer : Known → ℕ → Result Answer Refusal
targets_answer known day = answered (λ plan. Answer.Targets (admissions_by plan day (targets_of plan day known.households))) known.plan Refusal.NoPlan
