-- What holds at each closing.
use Rattle.std.specs.Prelude.{◌≡◌, ◌≢◌, ◌≤◌, ℕ, Some, IfSome, length, Contains}
use Rattle.days_core.specs.Calendar.{first_of as first_day_of, last_of as last_day_of}
use Rattle.record_history.specs.{declared.records.Kind.Kind, declared.records.Record.Record, Law.IsInForceOn, Records.as_of}
use Rattle.rent_table.specs.{declared.plan.Plan.Plan, declared.rows.RentRow.RentRow, declared.rows.Unit.Unit as UnitRow, Standing.SetsRentsOn}
use Rattle.voucher_core.specs.Naming.{NameTheirPairs}
use Rattle.book_rows.specs.{declared.rows.Batch.Batch, declared.closings.CloseAct.CloseAct, Book.Book, Book.appended, declared.command.Command.Command}
use Rattle.office_step.specs.{declared.call.Capacity.Capacity, Known.Known, Known.known_of, Known.own_in, Made.closing_by, Step.IsAppended, Step.IsReached}
use Rattle.office_laws.specs.History.{IsLater}

-- what was known of a household as of an act stays known
abbrev pub KnownAsOfStays : Type 0
KnownAsOfStays = (capacity : Capacity) (book later : Book) → IsReached capacity book → IsLater capacity book later →
    (act household : ℕ) → act ≤ length book.acts →
    as_of act (own_in (known_of later) household) ≡ as_of act (own_in (known_of book) household)

-- There is a plan at a closing, and on every later book each of its lines names its records: one of an earlier month those
-- of the last closing and of this one, and one of the closed month that of this one alone.
abbrev pub ClosingsNameTheirPairs : Type 0
ClosingsNameTheirPairs = (capacity : Capacity) (book : Book) (rows : Batch) → IsReached capacity book → (appends : IsAppended capacity book rows) →
    (close : CloseAct) → appends.call.command ≡ Command.Close close → (later : Book) → IsLater capacity (appended book rows) later →
    (plan : Plan) × ((known_of book).plan ≡ Some plan)
    × NameTheirPairs (own_in (known_of later)) (closing_by (known_of book) close plan rows.act.n) rows.lines

-- the record's rents are those of its unit on the day: they stand then for the unit's group
pub record HasRentsOfItsUnit (known : Known) (day : ℕ) (r : Record) : Type 0 where
  pub unit : UnitRow
  pub row : RentRow
  pub held : Contains known.units unit
  pub numbered : unit.number ≡ r.unit
  pub sets : SetsRentsOn known.rents unit.group day row
  pub same : row.rents ≡ r.rents

-- on each day from the plan's first through the month's last, a record in force that is neither a move-out nor a
-- termination has the rents that its unit has on that day
abbrev pub HasItsRents : Known → ℕ → Plan → Type 0
HasItsRents known month plan =
    (household day : ℕ) (r : Record) → first_day_of plan.first ≤ day → day ≤ last_day_of month →
    IsInForceOn (Contains (own_in known household)) day r → r.kind ≢ Kind.MO → r.kind ≢ Kind.TM → HasRentsOfItsUnit known day r

-- so at each closing
abbrev pub RentsAreDoneAtClosings : Type 0
RentsAreDoneAtClosings = (capacity : Capacity) (book : Book) (rows : Batch) → IsReached capacity book → (appends : IsAppended capacity book rows) →
    (close : CloseAct) → appends.call.command ≡ Command.Close close → IfSome (known_of book).plan (HasItsRents (known_of book) close.month)
