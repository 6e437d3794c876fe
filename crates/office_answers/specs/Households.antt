-- What is asked of one household.
use Rattle.std.specs.Prelude.{ℕ, Result, Ok, List, [], map, unwrap_or}
use Rattle.record_history.specs.{declared.records.Record.Record, Records.live_records, Records.newest_number}
use Rattle.admission_order.specs.Below.office_step.{declared.refusal.Refusal.Refusal, Acts.at_number, Known.Known, Known.own_in, Households.record_at, Against.no_household, declared.refusal.Named.Named}
use Rattle.office_answers.specs.{declared.answer.Answer.Answer, declared.answer.HouseholdSummary.HouseholdSummary, Answered.unless, Answered.answered}

-- the household's name, and the empty one where there is no such household
abbrev pub name_in : Known → ℕ → List ℕ
name_in known household = unwrap_or (at_number known.names household) []

-- the numbers of the records that count, in the order in which they came
abbrev pub live_numbers : List Record → List ℕ
live_numbers own = map (λ r. r.number) (live_records own)

abbrev pub summary_of : Known → ℕ → HouseholdSummary
summary_of known household = record {
  household = household;
  name = name_in known household;
  live = live_numbers (own_in known household);
  newest = newest_number (own_in known household);
}

-- the summary of a household that there is
abbrev pub household_answer : Known → ℕ → Result Answer Refusal
household_answer known household = unless (no_household known household) (Ok (Answer.Household (summary_of known household)))

-- a record of a household that there is, whether or not it counts
abbrev pub record_answer : Known → ℕ → ℕ → Result Answer Refusal
record_answer known household number = unless (no_household known household) (answered Answer.Record (record_at (own_in known household) number) (Refusal.NoSuch Named.Record number))
