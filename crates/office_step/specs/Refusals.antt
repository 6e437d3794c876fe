-- What the tests of a command ask, each by the lists and numbers that it reads: rightful days, and what a closing waits for.
use Rattle.std.specs.Prelude.{ℕ, ◌+◌, ◌==◌, ◌&&◌, not, nat_le, nat_lt, if◌then◌else◌, Bool, Option, Some, None, option_and_then, List, [], ◌∷◌, map, filter, find, bytes_eq}
use Rattle.std.specs.{List.range_with_len, Option.option_map, Option.option_map_or}
use Rattle.days_core.specs.{Calendar.last_of, OfficeDays.last_office_month}
use Rattle.record_history.specs.declared.records.{Record.Record, Kind.Kind, Dates.Dates}
use Rattle.record_history.specs.Records.{live_records, comes_before, in_force, latest}
use Rattle.rent_table.specs.declared.rows.{Unit.Unit as UnitRow, RentRow.RentRow}
use Rattle.due_dates.specs.{Rightful.rightful_day_of, Rightful.next_anniversary, Stale.rent_due_day_of, Overdue.is_overdue, declared.due.Due.Due}
use Rattle.tenancy_rules.specs.{Changed.without, Order.earliest}
use Rattle.voucher_core.specs.Certified.{certified_amount}
use Rattle.book_rows.specs.declared.rows.ActRow.{ActRow}
pub use Rattle.book_rows.specs.Book.{is_request_of}
use Rattle.office_step.specs.declared.{refusal.Refusal.Refusal, rightful.Rightful.Rightful}
use Rattle.office_step.specs.Households.{standing_on, begins_year}

-- the first that stands
abbrev pub first_of : List (Option Refusal) → Option Refusal
first_of [] = None
first_of (Some refused ∷ rest) = Some refused
first_of (None ∷ rest) = first_of rest

-- it is refused if the test passes, or unless it passes
abbrev pub refused_if : Bool → Refusal → Option Refusal
refused_if test refused = if test then Some refused else None

abbrev pub refused_unless : Bool → Refusal → Option Refusal
refused_unless test refused = if test then None else Some refused

-- ---- the call

-- the act of the same clerk, request and command
abbrev pub repeated : List ActRow → ℕ → ℕ → List ℕ → Option ActRow
repeated rows clerk request body = find (λ row. is_request_of clerk request row && bytes_eq row.body body) rows

-- that act has the clerk and request, and another command
abbrev pub request_reused : List ActRow → ℕ → ℕ → List ℕ → Option Refusal
request_reused rows clerk request body =
    option_map (λ row. Refusal.RequestReused row.n) (find (λ row. is_request_of clerk request row && not (bytes_eq row.body body)) rows)

-- ---- rightful days

-- the live records but for that one, as for its correction
abbrev pub others_of : List Record → Record → List Record
others_of own target = without target.number (live_records own)

-- the last of the records by which a household's year begins
abbrev pub base : List Record → Option Record
base live = latest (filter (λ r. begins_year r.kind) live)

-- the first anniversary of the opening record later than the first day of the base, where these are
abbrev pub annual_day : Option Record → Option Record → Option ℕ
annual_day opening base =
    option_and_then (λ r. option_map (λ last. rightful_day_of (Due.Annual r.from last.from)) base) opening

-- the rightful day of an annual
abbrev pub annual_right : List Record → Option ℕ
annual_right own = annual_day (earliest (live_records own)) (base (live_records own))

-- the rightful day of an annual's correction: without the target, by the last such record before it
abbrev pub corrected_annual_right : List Record → Record → Option ℕ
corrected_annual_right own target =
    annual_day (earliest (others_of own target)) (base (filter (λ r. comes_before r target) (others_of own target)))

-- the payment is above that of the record in force on the day, by these live records
abbrev pub is_higher : List Record → ℕ → ℕ → Bool
is_higher live ttp event = nat_lt (option_map_or (λ r. r.ttp) (standing_on live event) 0) ttp

-- the rightful day of an interim
abbrev pub interim_right : List Record → Dates → ℕ → ℕ → Rightful
interim_right live dates ttp report_days =
    Rightful.Only (Some (rightful_day_of (Due.Interim dates (is_higher live ttp dates.event) report_days)))

-- the rightful day of a resumed certification
abbrev pub resume_right : ℕ → ℕ
resume_right done = rightful_day_of (Due.Resume done)

-- the rightful day of a correction to that payment, by the kind and the dates of its target: of an annual, an interim or a
-- resumed certification; of another it is any day
abbrev pub corrected_by : List Record → Record → ℕ → ℕ → Kind → Option Dates → Rightful
corrected_by own target ttp report_days Kind.AR dates = Rightful.Only (corrected_annual_right own target)
corrected_by own target ttp report_days Kind.IR (Some dates) = interim_right (others_of own target) dates ttp report_days
corrected_by own target ttp report_days Kind.IC (Some dates) = Rightful.Only (Some (resume_right dates.done))
corrected_by own target ttp report_days _ dates = Rightful.Any

abbrev pub corrected_right : List Record → Record → ℕ → ℕ → Rightful
corrected_right own target ttp report_days = corrected_by own target ttp report_days target.kind target.dates

-- ---- closing

-- the month after a closing, up to 2099-12
abbrev pub month_after : ℕ → Option ℕ
month_after month = if nat_lt month last_office_month then Some (month + 1) else None

-- the next month to close: the plan's first, or the one after that which was closed last
abbrev pub next_to_close : ℕ → Option ℕ → Option ℕ
next_to_close first None = Some first
next_to_close first (Some closed) = month_after closed

-- the least day, in the span, on which the household's record in force has other rents than its unit, with that record
abbrev pub household_rent_due : List Record → List UnitRow → List RentRow → ℕ → ℕ → ℕ → Option Refusal
household_rent_due own units rents first last household =
    option_and_then (λ day. option_map (λ r. Refusal.RentDue household r.number day) (in_force own day))
    (rent_due_day_of own units rents first last)

-- the refusal of the first of so many households, from 1 on, for which one stands
abbrev pub first_household : (ℕ → Option Refusal) → ℕ → Option Refusal
first_household refused count = first_of (map refused (range_with_len 1 count))

-- the household is certified for the month by a record of fifteen or more months before; the day is its next anniversary
abbrev pub overdue_day : ℕ → Option Record → Option Record → Option ℕ
overdue_day month opening base =
    option_and_then (λ r. option_and_then (λ last. if is_overdue last.from month then Some (next_anniversary r.from last.from) else None) base) opening

-- nothing is to be paid for the month
unfoldable pub is_unpaid : List Record → ℕ → Bool
is_unpaid own month = certified_amount own month == 0

-- the household is to be paid for the month, and overdue
abbrev pub household_overdue : List Record → ℕ → ℕ → Option Refusal
household_overdue own month household =
    if is_unpaid own month then None
    else option_map (λ anniversary. Refusal.Overdue household anniversary)
    (overdue_day month (earliest (live_records own)) (base (filter (λ r. nat_le r.from (last_of month)) (live_records own))))

-- the lines held and those of the closing exceed the capacity
abbrev pub lines_full : ℕ → ℕ → ℕ → Option Refusal
lines_full held more capacity = if nat_lt capacity (held + more) then Some (Refusal.LinesFull held more) else None
