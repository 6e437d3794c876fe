-- How far an office is with the admissions of a fiscal year, in plain facts.
use Rattle.std.specs.Prelude.{◌≡◌, ◌≢◌, ◌↔◌, ◌≤◌, ◌+◌, ◌%◌, ℕ, Some, List, length, count_by, AllPairs, Contains}
use Rattle.days_core.specs.Calendar.{month_of}
use Rattle.record_history.specs.declared.records.{Kind.Kind, Record.Record}
use Rattle.rent_table.specs.declared.plan.Plan.{Plan}
use Rattle.wait_list.specs.declared.targets.Targets.{Targets}
use Rattle.book_rows.specs.Book.{Book}
use Rattle.office_step.specs.{declared.call.Capacity.Capacity, Candidates.targets_of, Known.Known, Known.known_of, Known.own_in, Step.IsReached}
use Rattle.office_step.specs.plain.Counting.{Counts}

-- no fiscal year begins after the one month and by the other, months being numbered from 1880-01
abbrev pub LieInOneYear : Plan → ℕ → ℕ → Type 0
LieInOneYear plan month other = (first : ℕ) → first % 12 + 1 ≡ plan.fiscal_month → (first ≤ month) ↔ (first ≤ other)

-- the record is a move-in that counts, and begins in the fiscal year in which the day lies
pub record IsAdmission (known : Known) (plan : Plan) (day : ℕ) (r : Record) : Type 0 where
  pub household : ℕ
  pub counts : Counts (own_in known household) r
  pub move_in : r.kind ≡ Kind.MI
  pub of_year : LieInOneYear plan (month_of r.from) (month_of day)

-- method and expected admissions are the plan's, and just those admissions are counted, each once, and of them those whose
-- income is extremely low
pub record AreCounted (known : Known) (plan : Plan) (day : ℕ) (targets : Targets) : Type 0 where
  pub method : targets.method ≡ plan.method
  pub expected : targets.expected ≡ plan.expected
  pub admissions : List Record
  pub just_those : (r : Record) → Contains admissions r ↔ IsAdmission known plan day r
  pub once : AllPairs (λ r other. r.act ≢ other.act) admissions
  pub admitted : targets.admitted ≡ length admissions
  pub extremely : targets.extremely ≡ count_by (λ r. r.extremely) admissions

abbrev pub TargetsAreCounted : Type 0
TargetsAreCounted = (capacity : Capacity) (book : Book) → IsReached capacity book → (plan : Plan) (day : ℕ) → (known_of book).plan ≡ Some plan →
    AreCounted (known_of book) plan day (targets_of plan day (known_of book).households)
