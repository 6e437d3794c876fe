-- What an office knows by the acts and records of its book.
use Rattle.std.specs.Prelude.{ℕ, ◌≡◌, ◌<◌, ◌+◌, Option, List, length, slice_index_or}
use Rattle.record_history.specs.{declared.records.Record.Record, Held.records_of}
use Rattle.rent_table.specs.declared.{plan.Plan.Plan, rows.Unit.Unit as UnitRow, rows.RentRow.RentRow, rows.LimitRow.LimitRow}
use Rattle.wait_list.specs.declared.applicant.Applicant.{Applicant}
use Rattle.book_rows.specs.Book.{Book}
use Rattle.office_step.specs.{declared.known.Application.Application, declared.known.Request.Request, declared.known.Closed.Closed, Households.households_of}
use Rattle.office_step.specs.Acts.{Act, acts_of, plan_of, plan_act, units_of, rents_of, limits_of, applications_of, ranks_of, waiting_of, names_of, household_count, requests_of, last_closing}
use Rattle.office_step.specs.Eligible.{eligible_of}

-- how many acts there are, the plan and the act that gave it, the rows that acts set, all who applied and those who still
-- wait, of each household its name, its records and the last that it said of another unit, and of each act the eligible
-- members of its record; and the last closing
pub record Known : Type 0 where
  pub count : ℕ
  pub plan : Option Plan
  pub plan_act : Option ℕ
  pub units : List UnitRow
  pub rents : List RentRow
  pub limits : List LimitRow
  pub applications : List Application
  pub waiting : List Applicant
  pub names : List (List ℕ)
  pub households : List (List Record)
  pub requests : List (Option Request)
  pub eligible : List ℕ
  pub closing : Option Closed

-- what is known by these acts and records
abbrev pub known_by : ℕ → List Act → List Record → Known
known_by count acts records = record {
  count = count;
  plan = plan_of acts;
  plan_act = plan_act acts;
  units = units_of acts;
  rents = rents_of acts;
  limits = limits_of acts;
  applications = applications_of acts;
  waiting = waiting_of (ranks_of (plan_of acts)) acts;
  names = names_of acts;
  households = households_of records (household_count acts);
  requests = requests_of acts;
  eligible = eligible_of records acts;
  closing = last_closing acts;
}

abbrev pub known_of : Book → Known
known_of book = known_by (length book.acts) (acts_of book.acts) book.records

-- the records of one household
abbrev pub own_in : Known → ℕ → List Record
own_in known household = records_of known.households household

-- units are numbered from 1 in the order in which they came
abbrev pub UnitsAreNumbered : List UnitRow → Type 0
UnitsAreNumbered units = (place : ℕ) (d : UnitRow) → place < length units → (slice_index_or units place d).number ≡ place + 1
