-- When the day on which a certification begins stands against an act, in plain facts (docs/REFUSALS.md, 13; docs/RULES.md,
-- "Which day a certification may take effect").
use Rattle.std.specs.Prelude.{ℕ, ◌≡◌, ◌≢◌, ◌↔◌, ◌+◌, ◌≤◌, ◌<◌, ◌⊎◌, Option, Some, None, List, All, Contains}
use Rattle.days_core.specs.OfficeDays.{last_office_day}
use Rattle.record_history.specs.{declared.records.Dates.Dates, declared.records.Kind.Kind, declared.records.Record.Record}
use Rattle.rent_table.specs.{declared.plan.Plan.Plan, Table.RentActsRise}
use Rattle.due_dates.specs.Law.{IsMonthAfter, IsFirstStart, IsNextAnniversary}
use Rattle.tenancy_rules.specs.OrderLaw.{Precedes}
use Rattle.office_step.specs.{declared.refusal.Refusal.Refusal, Known.Known, Known.UnitsAreNumbered, Households.AreBy, Matter.Matter, Matter.own, Made.record_in, Against.wrong_day}
use Rattle.office_step.specs.plain.{Counting.AllInTurn, Counting.Counts, Counting.IsFirstOf, Counting.IsLastOf, Closing.HasOldRents}

-- ---- interims

-- the payment is above that of the last of the records that begin by the day, and above 0 where there is none
abbrev pub IsHigher : (Record → Type 0) → ℕ → ℕ → Type 0
IsHigher IsOne ttp day =
    ((r : Record) × IsLastOf (λ other. IsOne other × (other.from ≤ day)) r × (r.ttp < ttp))
    ⊎ (((r : Record) → ¬ (IsOne r × (r.from ≤ day))) × (0 < ttp))

-- the table of interims: told in time or late, by so many days, and higher or not
pub record IsInterimDay (IsOne : Record → Type 0) (dates : Dates) (ttp report_days day : ℕ) : Type 0 where
  pub in_time_and_higher : dates.notice ≤ dates.event + report_days → IsHigher IsOne ttp dates.event → IsFirstStart (dates.notice + 30) day
  pub in_time_and_not : dates.notice ≤ dates.event + report_days → (¬ IsHigher IsOne ttp dates.event) → IsMonthAfter dates.event day
  pub late_and_higher : dates.event + report_days < dates.notice → IsHigher IsOne ttp dates.event → IsMonthAfter dates.event day
  pub late_and_not : dates.event + report_days < dates.notice → (¬ IsHigher IsOne ttp dates.event) → IsMonthAfter dates.done day

-- ---- annuals

-- a move-in, an initial or an annual certification
abbrev pub BeginsYear : Record → Type 0
BeginsYear r = (r.kind ≡ Kind.MI) ⊎ ((r.kind ≡ Kind.IC) ⊎ (r.kind ≡ Kind.AR))

-- the first anniversary of the first of the records after the last of those by which a year begins; none where none does
pub record IsAnnualDay (IsOne IsBase : Record → Type 0) (right : Option ℕ) : Type 0 where
  pub none : ((r : Record) → ¬ IsBase r) → right ≡ None
  pub some : (opening last : Record) → IsFirstOf IsOne opening → IsLastOf IsBase last →
      (day : ℕ) × (right ≡ Some day) × IsNextAnniversary opening.from last.from day

-- ---- gross rent changes

-- the first day through 2099-12-31 on which the household's rents are old; none where they never are
pub record IsGrossDay (known : Known) (own : List Record) (right : Option ℕ) : Type 0 where
  pub none : ((day : ℕ) (r : Record) → day ≤ last_office_day → ¬ HasOldRents known own day r) → right ≡ None
  pub some : (day : ℕ) (r : Record) → day ≤ last_office_day → HasOldRents known own day r →
      ((earlier : ℕ) (other : Record) → earlier < day → ¬ HasOldRents known own earlier other) → right ≡ Some day

-- ---- corrections

-- it counts, and isn't the one that is corrected
abbrev pub IsAnother : List Record → Record → Record → Type 0
IsAnother own target r = Counts own r × (r.number ≢ target.number)

-- the rightful day again, without the record that is corrected; for an annual by those before it
pub data HasRightAgain (own : List Record) (target : Record) (ttp report_days : ℕ) (right : Option ℕ) : Type 0 where
  annual : target.kind ≡ Kind.AR →
      IsAnnualDay (IsAnother own target) (λ r. IsAnother own target r × BeginsYear r × Precedes r target) right → HasRightAgain own target ttp report_days right
  interim : target.kind ≡ Kind.IR → (dates : Dates) → target.dates ≡ Some dates → (day : ℕ) →
      IsInterimDay (IsAnother own target) dates ttp report_days day → right ≡ Some day → HasRightAgain own target ttp report_days right
  resumed : target.kind ≡ Kind.IC → (dates : Dates) → target.dates ≡ Some dates → (day : ℕ) → IsMonthAfter dates.done day → right ≡ Some day →
      HasRightAgain own target ttp report_days right

-- ---- 13

-- the day on which the act's record may begin, where it isn't any: of an annual, a gross rent change, an interim, a resumed
-- certification, and a correction of one that counts
pub data HasRight (about : Matter) (right : Option ℕ) : Type 0 where
  of_annual : about.target ≡ None → about.kind ≡ Some Kind.AR →
      IsAnnualDay (Counts (own about)) (λ r. Counts (own about) r × BeginsYear r) right → HasRight about right
  of_gross : about.target ≡ None → about.kind ≡ Some Kind.GR → IsGrossDay about.known (own about) right → HasRight about right
  of_interim : about.target ≡ None → about.kind ≡ Some Kind.IR → (dates : Dates) (made : Record) (plan : Plan) (day : ℕ) → about.told ≡ Some dates →
      record_in about ≡ Some made → about.known.plan ≡ Some plan → IsInterimDay (Counts (own about)) dates made.ttp plan.report_days day → right ≡ Some day →
      HasRight about right
  of_resumed : about.target ≡ None → about.kind ≡ Some Kind.IC → (dates : Dates) (day : ℕ) → about.told ≡ Some dates → IsMonthAfter dates.done day →
      right ≡ Some day → HasRight about right
  of_correction : (target made : Record) (plan : Plan) → about.target ≡ Some target.number → Contains (own about) target → record_in about ≡ Some made →
      about.known.plan ≡ Some plan → HasRightAgain (own about) target made.ttp plan.report_days right → HasRight about right

-- 13: the record begins on another day than the rightful one
pub record BeginsOnAnother (about : Matter) (refusal : Refusal) : Type 0 where
  pub from : ℕ
  pub right : Option ℕ
  pub told : refusal ≡ Refusal.WrongDay right
  pub begins : about.from ≡ Some from
  pub its : HasRight about right
  pub another : right ≢ Some from

-- the days of a change are days that an office knows
abbrev pub AreKnownDays : Option Dates → Type 0
AreKnownDays told = (dates : Dates) → told ≡ Some dates → AreBy last_office_day dates

abbrev pub WrongDayIsPlain : Type 0
WrongDayIsPlain = (about : Matter) (refusal : Refusal) → AllInTurn about.known → UnitsAreNumbered about.known.units → RentActsRise about.known.rents →
    AreKnownDays about.told → All (λ r. AreKnownDays r.dates) (own about) → (wrong_day about ≡ Some refusal) ↔ BeginsOnAnother about refusal
