-- What a register holds, the room that it has for more, and what holds of every register.
use Rattle.std.specs.Prelude.{ℕ, ◌≡◌, ◌≤◌, ◌<◌, true, false, Option, List, All, IfSome, length, map, sum_by, is_some}
use Rattle.days_core.specs.{OfficeDays.last_office_day, OfficeDays.last_office_month}
use Rattle.record_history.specs.declared.records.Record.{Record}
use Rattle.rent_table.specs.declared.rows.{Unit.Unit as UnitRow, RentRow.RentRow, LimitRow.LimitRow}
use Rattle.wait_list.specs.declared.applicant.Applicant.{Applicant}
use Rattle.book_rows.specs.Fit.{is_plan, are_rents}
use Rattle.due_dates.specs.Stale.{is_rent_stale_on, rent_due_day_of}
use Rattle.record_history.specs.Records.{newest_act}
use Rattle.office_refusals.specs.Below.office_step.{declared.known.Application.Application, declared.known.Request.Request, declared.known.Closed.Closed, Known.Known, Known.own_in, Households.AreBy, Eligible.AllEligible, Against.plan_day, Refusals.annual_right}
use Rattle.office_register.specs.declared.register.Reviewed.{Reviewed}
use Rattle.record_history.specs.Limits.{most_acts}

-- what is known, for how many more rows of every sort there is room, and for how many more records of each household and,
-- last, of the one to come
pub record Registered : Type 0 where
  pub known : Known
  pub room : ℕ
  pub record_room : List ℕ

-- the days that a record tells of a change come by 2099-12-31
abbrev pub HasDates : Record → Type 0
HasDates r = IfSome r.dates (AreBy last_office_day)

-- Each part below holds after so many acts.

-- no act adds more than one unit; units are numbered up to their count, and have bedrooms for which a plan has bounds
pub record AreUnits (count : ℕ) (units : List UnitRow) : Type 0 where
  pub few : length units ≤ count
  pub numbers : All (λ unit. unit.number ≤ length units) units
  pub bedrooms : All (λ unit. unit.bedrooms ≤ 5) units

-- rents lie within their bounds, and were set by one of the acts
pub record AreRents (count : ℕ) (rents : List RentRow) : Type 0 where
  pub within : All (λ row. are_rents row.rents ≡ true) rents
  pub acts : All (λ row. row.act ≤ count) rents

-- limits were set by one of the acts
abbrev pub AreLimits : ℕ → List LimitRow → Type 0
AreLimits count limits = All (λ row. row.act ≤ count) limits

-- who waits is numbered up to the count of the applications, and applied by one of the acts
pub record AreApplicants (count : ℕ) (applications : List Application) (waiting : List Applicant) : Type 0 where
  pub few : length applications ≤ count
  pub numbers : All (λ applicant. applicant.number ≤ length applications) waiting
  pub acts : All (λ applicant. applicant.act ≤ count) waiting

-- no act makes more than one record; each household has a name, records by some of the acts, and at most one request
pub record AreHouseholds (count : ℕ) (names : List (List ℕ)) (households : List (List Record)) (requests : List (Option Request)) : Type 0 where
  pub few : length households ≤ count
  pub records : sum_by length households ≤ count
  pub one_name : length names ≡ length households
  pub one_request : length requests ≡ length households
  pub acts : All (All (λ r. r.act ≤ count)) households
  pub dates : All (All HasDates) households

-- each act has the eligible members of its record
pub record AreMembers (count : ℕ) (eligible : List ℕ) (households : List (List Record)) : Type 0 where
  pub one_each : length eligible ≡ count
  pub all : AllEligible eligible households

-- a month up to 2099-12 was closed by one of the acts
pub record IsClosing (count : ℕ) (closing : Closed) : Type 0 where
  pub month : closing.month ≤ last_office_month
  pub act : closing.act ≤ count

-- what holds of everything that is known
pub record IsSound (known : Known) : Type 0 where
  pub count : known.count ≤ most_acts
  pub plan : IfSome known.plan (λ plan. is_plan plan ≡ true)
  pub plan_act : is_some known.plan_act ≡ is_some known.plan
  pub units : AreUnits known.count known.units
  pub rents : AreRents known.count known.rents
  pub limits : AreLimits known.count known.limits
  pub applicants : AreApplicants known.count known.applications known.waiting
  pub households : AreHouseholds known.count known.names known.households known.requests
  pub members : AreMembers known.count known.eligible known.households
  pub closing : IfSome known.closing (IsClosing known.count)

-- the least day of the span on which the household's rents are stale
abbrev pub rent_due_from : Known → ℕ → ℕ → ℕ → Option ℕ
rent_due_from known household first last = rent_due_day_of (own_in known household) known.units known.rents first last

-- the household has no stale rents on a day from the plan's first on and before that one
abbrev pub HasNoneStale : Known → ℕ → ℕ → Type 0
HasNoneStale known next household =
    (day : ℕ) → plan_day known ≤ day → day < next → is_rent_stale_on (own_in known household) known.units known.rents day ≡ false

-- so it is of each household of which no record came after the closing
pub record IsReviewed (known : Known) (reviewed : Reviewed) : Type 0 where
  pub act : reviewed.act ≤ known.count
  pub first : plan_day known ≤ reviewed.next
  pub none_stale : (household : ℕ) → newest_act (own_in known household) ≤ reviewed.act → HasNoneStale known reviewed.next household

-- each of its days comes before that one
abbrev pub EndsBefore : Known → ℕ → Reviewed → Type 0
EndsBefore known next reviewed = (day : ℕ) → plan_day known ≤ day → day < reviewed.next → day < next

-- what holds of a register
pub record IsRegister (known : Known) (reviewed : Option Reviewed) (annuals : List (Option ℕ)) : Type 0 where
  pub sound : IsSound known
  pub review : IfSome reviewed (IsReviewed known)
  pub yearly : annuals ≡ map annual_right known.households
