-- When old rents or a missing annual stand against a closing, in plain facts (docs/REFUSALS.md, 22 and 23).
use Rattle.std.specs.Prelude.{ℕ, ◌≡◌, ◌≢◌, ◌↔◌, ◌+◌, ◌≤◌, ◌<◌, ◌⊎◌, Some, None, List, length, Contains}
use Rattle.days_core.specs.Calendar.{month_of, first_of as first_day_of, last_of as last_day_of}
use Rattle.record_history.specs.{declared.records.Kind.Kind, declared.records.Record.Record, Law.IsInForceOn}
use Rattle.rent_table.specs.{declared.plan.Plan.Plan, declared.rows.Unit.Unit as UnitRow, declared.rows.RentRow.RentRow, Table.RentActsRise, Standing.SetsRentsOn}
use Rattle.due_dates.specs.Law.{IsNextAnniversary}
use Rattle.voucher_core.specs.Certified.{certified_amount}
use Rattle.office_step.specs.{declared.refusal.Refusal.Refusal, Known.Known, Known.UnitsAreNumbered, Known.own_in, Matter.Matter, Against.rent_due, Against.overdue}
use Rattle.office_step.specs.plain.Counting.{AllInTurn, Counts, IsFirstOf, IsLastOf}

-- it is told of the household, and of no lesser one
pub record IsLeastOf (IsTold : ℕ → Refusal → Type 0) (count household : ℕ) (refusal : Refusal) : Type 0 where
  pub from_first : 1 ≤ household
  pub to_last : household ≤ count
  pub this : IsTold household refusal
  pub none_before : (lesser : ℕ) (other : Refusal) → 1 ≤ lesser → lesser < household → ¬ IsTold lesser other

-- ---- 22: old rents

-- the record in force on the day, neither a move-out nor a termination, has other rents than its unit's group has then
pub record HasOldRents (known : Known) (own : List Record) (day : ℕ) (r : Record) : Type 0 where
  pub unit : UnitRow
  pub row : RentRow
  pub in_force : IsInForceOn (Contains own) day r
  pub no_move_out : r.kind ≢ Kind.MO
  pub no_termination : r.kind ≢ Kind.TM
  pub held : Contains known.units unit
  pub numbered : unit.number ≡ r.unit
  pub sets : SetsRentsOn known.rents unit.group day row
  pub others : r.rents ≢ row.rents

-- the day is the first of the plan's first month, and day 0 where there is no plan
pub record IsPlanDay (known : Known) (day : ℕ) : Type 0 where
  pub planned : (plan : Plan) → known.plan ≡ Some plan → day ≡ first_day_of plan.first
  pub unplanned : known.plan ≡ None → day ≡ 0

-- the household has old rents on the day, which lies between the plan's first and the month's last, and on no earlier one
-- there
pub record OwesGross (known : Known) (month household : ℕ) (refusal : Refusal) : Type 0 where
  pub first : ℕ
  pub day : ℕ
  pub r : Record
  pub told : refusal ≡ Refusal.RentDue household r.number day
  pub plan_day : IsPlanDay known first
  pub from_first : first ≤ day
  pub to_last : day ≤ last_day_of month
  pub old : HasOldRents known (own_in known household) day r
  pub none_earlier : (earlier : ℕ) (other : Record) → first ≤ earlier → earlier < day → ¬ HasOldRents known (own_in known household) earlier other

-- 22: the month is closed while a household has old rents on a day of it or before
pub record ClosesOverRents (about : Matter) (refusal : Refusal) : Type 0 where
  pub month : ℕ
  pub household : ℕ
  pub closes : about.month ≡ Some month
  pub least : IsLeastOf (OwesGross about.known month) (length about.known.households) household refusal

abbrev pub RentDueIsPlain : Type 0
RentDueIsPlain = (about : Matter) (refusal : Refusal) → AllInTurn about.known → UnitsAreNumbered about.known.units → RentActsRise about.known.rents →
    (rent_due about ≡ Some refusal) ↔ ClosesOverRents about refusal

-- ---- 23: a missing annual

-- a move-in, an initial or an annual certification that counts and begins by the day
pub record BeginsYearBy (own : List Record) (day : ℕ) (r : Record) : Type 0 where
  pub counts : Counts own r
  pub begins_year : (r.kind ≡ Kind.MI) ⊎ ((r.kind ≡ Kind.IC) ⊎ (r.kind ≡ Kind.AR))
  pub by : r.from ≤ day

-- The household is to be paid for the month, and the last of its move-in, initial and annual certifications by the month's
-- end begins fifteen or more months before. The anniversary after that is that of its opening record, the first that counts.
pub record LacksAnnual (known : Known) (month household : ℕ) (refusal : Refusal) : Type 0 where
  pub opening : Record
  pub last : Record
  pub anniversary : ℕ
  pub told : refusal ≡ Refusal.Overdue household anniversary
  pub paid : certified_amount (own_in known household) month ≢ 0
  pub opens : IsFirstOf (Counts (own_in known household)) opening
  pub certified : IsLastOf (BeginsYearBy (own_in known household) (last_day_of month)) last
  pub too_old : month_of last.from + 15 ≤ month
  pub next : IsNextAnniversary opening.from last.from anniversary

-- 23: the month is closed while a household lacks its annual
pub record ClosesOverAnnual (about : Matter) (refusal : Refusal) : Type 0 where
  pub month : ℕ
  pub household : ℕ
  pub closes : about.month ≡ Some month
  pub least : IsLeastOf (LacksAnnual about.known month) (length about.known.households) household refusal

abbrev pub OverdueIsPlain : Type 0
OverdueIsPlain = (about : Matter) (refusal : Refusal) → AllInTurn about.known → (overdue about ≡ Some refusal) ↔ ClosesOverAnnual about refusal
