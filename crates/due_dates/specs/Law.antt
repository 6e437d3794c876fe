-- What it comes to that a day is the rightful one, and that rents are stale on it.
use Rattle.std.specs.Prelude.{ℕ, ◌+◌, ◌<◌, ◌≤◌, ◌≡◌, ◌≢◌, List, Some}
use Rattle.days_core.specs.{Calendar.month_of, Calendar.month_in_year, Calendar.first_of, declared.rents.Rents.Rents}
use Rattle.record_history.specs.{declared.records.Kind.Kind, declared.records.Record.Record, Records.in_force}
use Rattle.rent_table.specs.{declared.rows.Unit.Unit as UnitRow, declared.rows.RentRow.RentRow, Table.unit_at, Table.rents_on}

-- the day is the first of a month of the calendar
abbrev pub BeginsMonth : ℕ → Type 0
BeginsMonth day = day ≡ first_of (month_of day)

-- the start is the first of the month after that of the day
pub record IsMonthAfter (day start : ℕ) : Type 0 where
  pub begins : BeginsMonth start
  pub next : month_of start ≡ month_of day + 1

-- the start is the earliest first of a month that is the day or later
pub record IsFirstStart (day start : ℕ) : Type 0 where
  pub begins : BeginsMonth start
  pub from_day : day ≤ start
  pub none_between : (other : ℕ) → BeginsMonth other → day ≤ other → start ≤ other

-- the day is an anniversary of the opening day: the first of the same month of some year
pub record IsAnniversary (opening day : ℕ) : Type 0 where
  pub begins : BeginsMonth day
  pub same_month : month_in_year day ≡ month_in_year opening

-- the day is the least anniversary later than the other day, in a month that is at most twelve months after
pub record IsNextAnniversary (opening after day : ℕ) : Type 0 where
  pub anniversary : IsAnniversary opening day
  pub later : after < day
  pub within_year : month_of day ≤ month_of after + 12
  pub none_between : (other : ℕ) → IsAnniversary opening other → after < other → day ≤ other

-- On the day a record is in force that is neither a move-out nor a termination, its unit is in the table and its group has
-- rents then, and these are others than those of the record.
pub record IsByOtherRents (records : List Record) (units : List UnitRow) (rows : List RentRow) (day : ℕ) : Type 0 where
  pub certified : Record
  pub unit : UnitRow
  pub rents : Rents
  pub stands : in_force records day ≡ Some certified
  pub no_move_out : certified.kind ≢ Kind.MO
  pub no_termination : certified.kind ≢ Kind.TM
  pub of_unit : unit_at units certified.unit ≡ Some unit
  pub on_day : rents_on rows unit.group day ≡ Some rents
  pub others : certified.rents ≢ rents
