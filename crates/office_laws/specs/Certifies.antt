-- What the record of each act certifies, in plain facts.
use Rattle.std.specs.Prelude.{◌≡◌, ◌≢◌, ◌≤◌, ◌<◌, ◌+◌, ◌-◌, ◌*◌, ◌&&◌, min, ⊤, ℕ, true, false, Option, Some, IfSome, IsSomeAnd, List, length, count_by, slice_index_or, Contains}
use Rattle.days_core.specs.Calendar.{month_of, last_of as last_day_of}
use Rattle.facts_core.specs.declared.facts.Facts.{Facts}
use Rattle.record_history.specs.{declared.records.Kind.Kind, declared.records.Record.Record, Law.CountsOn, Law.IsInForceOn}
use Rattle.rent_table.specs.{declared.plan.Plan.Plan, declared.rows.LimitRow.LimitRow, Standing.SetsLimitsOn}
use Rattle.due_dates.specs.Law.{IsMonthAfter}
use Rattle.voucher_core.specs.Certified.{certified_amount}
use Rattle.share_rules.specs.Law.{IsNearest}
use Rattle.book_rows.specs.{declared.rows.Batch.Batch, declared.command.Command.Command, declared.household.HouseholdChange.HouseholdChange, Book.Book}
use Rattle.office_step.specs.{declared.call.Capacity.Capacity, Known.Known, Known.known_of, Known.own_in, Eligible.eligible_of_record, Step.IsAppended, Step.IsReached}
use Rattle.office_step.specs.plain.{Facts.is_family, Counting.Counts, Counting.IsLastOf, Closing.BeginsYearBy, Rightful.BeginsYear, Rightful.IsAnnualDay, Rightful.IsGrossDay, Rightful.IsInterimDay, Rightful.HasRightAgain, Replies.IsWithinItsRent}
use Rattle.office_laws.specs.{Closing.HasRentsOfItsUnit, Incomes.IsAnnualIncome, Deductions.IsAdjustedIncome}

-- ---- rents and assistance

-- what every record meets that certifies something: its rents are its unit's on its first day
pub record Certifies (known : Known) (r : Record) : Type 0 where
  pub rents : HasRentsOfItsUnit known r.from r
  pub within : IsWithinItsRent r

-- a move-out, a termination or a withdrawal certifies nothing
pub record CertifiesNothing (r : Record) : Type 0 where
  pub ttp : r.ttp ≡ 0
  pub assistance : r.assistance ≡ 0
  pub contract_rent : r.rents.contract_rent ≡ 0
  pub utility : r.rents.utility ≡ 0

-- the members of a family who are eligible
abbrev pub family_eligible : Facts → ℕ
family_eligible facts = count_by (λ member. is_family member.relation && member.eligible) facts.members

-- Of what the payment leaves of the gross rent the office claims the part of the eligible members, to the nearest dollar, and
-- half a one goes up (24 CFR 5.520); for nobody it claims nothing.
pub record ClaimsItsPart (eligible : ℕ) (r : Record) : Type 0 where
  pub left : ℕ
  pub leaves : left + min r.ttp (r.rents.contract_rent + r.rents.utility) ≡ r.rents.contract_rent + r.rents.utility
  pub part : 1 ≤ r.size → IsNearest r.assistance (left * eligible) r.size
  pub nobody : r.size ≡ 0 → r.assistance ≡ 0

-- ---- payment

-- an amount a month is no less than so many percent of an income a year, where half a dollar is rounded up (own rule)
abbrev pub CoversShare : ℕ → ℕ → ℕ → Type 0
CoversShare percent income amount = percent * income < 1200 * amount + 600

-- it is no less than any of the four: 30 percent of adjusted and 10 of annual income, the welfare rent, and the minimum
-- rent, from which a family in hardship is exempt (24 CFR 5.628, 5.630)
pub record CoversAll (facts : Facts) (annual adjusted amount : ℕ) : Type 0 where
  pub of_adjusted : CoversShare 30 adjusted amount
  pub of_annual : CoversShare 10 annual amount
  pub welfare : facts.welfare ≤ amount
  pub minimum : facts.exempt ≡ false → 25 ≤ amount

-- the total tenant payment is the least such (24 CFR 5.628)
pub record IsLeastPayment (facts : Facts) (r : Record) : Type 0 where
  pub covers : CoversAll facts r.annual r.adjusted r.ttp
  pub least : (other : ℕ) → CoversAll facts r.annual r.adjusted other → r.ttp ≤ other

-- ---- by facts

-- whether the annual income is at most the extremely low limit of its first day, for its family's size (24 CFR 5.653)
pub record TellsExtremelyLow (known : Known) (r : Record) : Type 0 where
  pub row : LimitRow
  pub stands : SetsLimitsOn known.limits r.from row
  pub is : r.extremely ≡ true → r.annual ≤ slice_index_or row.extremely_low (r.size - 1) 0
  pub is_not : r.extremely ≡ false → slice_index_or row.extremely_low (r.size - 1) 0 < r.annual

-- a record computed from facts: persons, family, incomes and payment are by these, and only a move-in tells extremely low
-- income
pub record IsByFacts (known : Known) (facts : Facts) (r : Record) : Type 0 where
  pub plan : Plan
  pub planned : known.plan ≡ Some plan
  pub certifies : Certifies known r
  pub persons : r.persons ≡ length facts.members
  pub size : r.size ≡ count_by (λ member. is_family member.relation) facts.members
  pub annual : IsAnnualIncome facts r.from plan.passbook r.annual
  pub adjusted : IsAdjustedIncome facts r.from r.annual r.adjusted
  pub payment : IsLeastPayment facts r
  pub eligible : ClaimsItsPart (family_eligible facts) r
  pub move_in : r.kind ≡ Kind.MI → TellsExtremelyLow known r
  pub other : r.kind ≢ Kind.MI → r.extremely ≡ false

-- ---- what is carried over

-- the record in force on the day, or record 1 where none is
pub data IsContinued (own : List Record) (day : ℕ) (held : Record) : Type 0 where
  in_force : IsInForceOn (Contains own) day held → IsContinued own day held
  first : ((other : Record) → ¬ CountsOn (Contains own) day other) → Contains own held → held.number ≡ 1 → IsContinued own day held

-- persons, incomes and payment are those of the record that it continues, and the office claims the part of its eligible
-- members anew by its own rents
pub record IsCarriedOver (known : Known) (own : List Record) (r : Record) : Type 0 where
  pub certifies : Certifies known r
  pub held : Record
  pub continued : IsContinued own r.from held
  pub persons : r.persons ≡ held.persons
  pub size : r.size ≡ held.size
  pub annual : r.annual ≡ held.annual
  pub adjusted : r.adjusted ≡ held.adjusted
  pub ttp : r.ttp ≡ held.ttp
  pub eligible : ClaimsItsPart (eligible_of_record known.eligible held) r
  pub extremely : r.extremely ≡ false

-- ---- first days

-- a correction of an annual, an interim or a resumed certification begins on the day that is right again beside the others
abbrev pub BeginsAgain : Known → List Record → ℕ → Record → Type 0
BeginsAgain known own number r =
    (plan : Plan) (target : Record) (right : Option ℕ) → known.plan ≡ Some plan → Contains own target → target.number ≡ number →
    HasRightAgain own target r.ttp plan.report_days right → right ≡ Some r.from

-- ---- closings

-- it is to be paid for the month, and the last certification by which a year began by the month's end began fifteen or more
-- months before
pub record IsPaidOnOld (own : List Record) (month : ℕ) : Type 0 where
  pub paid : certified_amount own month ≢ 0
  pub last : Record
  pub certified : IsLastOf (BeginsYearBy own (last_day_of month)) last
  pub too_old : month_of last.from + 15 ≤ month

abbrev pub NobodyIsOverdue : Known → ℕ → Type 0
NobodyIsOverdue known month = (household : ℕ) → 1 ≤ household → household ≤ length known.households → ¬ IsPaidOnOld (own_in known household) month

-- ---- acts

-- it is of that kind, and begins on the day
abbrev pub IsOf : Kind → ℕ → Record → Type 0
IsOf kind from r = (r.kind ≡ kind) × (r.from ≡ from)

-- the unit is that of the record that it continues
pub record KeepsItsUnit (own : List Record) (r : Record) : Type 0 where
  pub held : Record
  pub continued : IsContinued own r.from held
  pub its : r.unit ≡ held.unit

-- what the record of a change certifies
abbrev pub ChangeCertifies : Known → List Record → HouseholdChange → Record → Type 0
ChangeCertifies known own (HouseholdChange.Annual annual) r =
    IsOf Kind.AR annual.from r × KeepsItsUnit own r × IsByFacts known annual.facts r
    × IsAnnualDay (Counts own) (λ other. Counts own other × BeginsYear other) (Some r.from)
ChangeCertifies known own (HouseholdChange.Interim interim) r =
    IsOf Kind.IR interim.from r × KeepsItsUnit own r × IsByFacts known interim.facts r
    × IfSome known.plan (λ plan. IsInterimDay (Counts own) interim.dates r.ttp plan.report_days r.from)
ChangeCertifies known own (HouseholdChange.Resume resume) r =
    IsOf Kind.IC resume.from r × KeepsItsUnit own r × IsByFacts known resume.facts r
    × IsMonthAfter resume.done r.from
ChangeCertifies known own (HouseholdChange.Gross gross) r =
    IsOf Kind.GR gross.from r × KeepsItsUnit own r × IsCarriedOver known own r
    × IsGrossDay known own (Some r.from)
ChangeCertifies known own (HouseholdChange.Correct correct) r = (r.from ≡ correct.from) × IsByFacts known correct.facts r × BeginsAgain known own correct.target r
ChangeCertifies known own (HouseholdChange.Transfer transfer) r = IsOf Kind.UT transfer.from r × (r.unit ≡ transfer.unit) × IsCarriedOver known own r
ChangeCertifies known own (HouseholdChange.MoveOut move_out) r = IsOf Kind.MO (move_out.last + 1) r × CertifiesNothing r
ChangeCertifies known own (HouseholdChange.Terminate terminate) r = IsOf Kind.TM terminate.from r × CertifiesNothing r
ChangeCertifies known own (HouseholdChange.Withdraw withdraw) r = (r.kind ≡ Kind.WD) × (r.corrects ≡ withdraw.target) × CertifiesNothing r

-- each act of which a record comes makes one, of its household or of the one that comes next, and this is what it certifies;
-- nobody is overdue at a closing
abbrev pub CertifiesRightly : Known → Batch → Command → Type 0
CertifiesRightly known rows (Command.Start start) =
    IsSomeAnd rows.made (λ r. (r.household ≡ length known.households + 1) × IsOf Kind.IC start.from r × (r.unit ≡ start.unit) × IsByFacts known start.facts r)
CertifiesRightly known rows (Command.Admit admit) =
    IsSomeAnd rows.made (λ r. (r.household ≡ length known.households + 1) × IsOf Kind.MI admit.from r × (r.unit ≡ admit.unit) × IsByFacts known admit.facts r)
CertifiesRightly known rows (Command.Household act) =
    IsSomeAnd rows.made (λ r. (r.household ≡ act.household) × ChangeCertifies known (own_in known act.household) act.change r)
CertifiesRightly known rows (Command.Close close) = NobodyIsOverdue known close.month
CertifiesRightly known rows _ = ⊤

abbrev pub RecordsCertifyRightly : Type 0
RecordsCertifyRightly = (capacity : Capacity) (book : Book) (rows : Batch) → IsReached capacity book → (appends : IsAppended capacity book rows) →
    CertifiesRightly (known_of book) rows appends.call.command
