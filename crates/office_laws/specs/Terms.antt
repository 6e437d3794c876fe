-- What each act had to meet before it was accepted, in the facts that it leaves behind.
use Rattle.std.specs.Prelude.{◌≡◌, ◌≤◌, ◌<◌, ◌++◌, ⊤, ℕ, IfSome, Option, List, [], ◌∷◌, length, Contains}
use Rattle.days_core.specs.OfficeDays.{first_office_day}
use Rattle.record_history.specs.declared.records.{Dates.Dates, Record.Record}
use Rattle.voucher_core.specs.Certified.{assistance_on}
use Rattle.book_rows.specs.declared.{rows.Batch.Batch, command.Command.Command, household.HouseholdAct.HouseholdAct, household.HouseholdChange.HouseholdChange}
use Rattle.office_step.specs.{declared.call.Capacity.Capacity, Known.Known, Known.known_of, Known.own_in, Step.IsAppended, Step.IsReached}
use Rattle.book_rows.specs.Book.{Book}

-- ---- days

-- a change came about, was told and was worked on in that order, none of it after the day of the act
pub record CameInOrder (today : ℕ) (dates : Dates) : Type 0 where
  pub event : first_office_day ≤ dates.event
  pub notice : dates.event ≤ dates.notice
  pub done : dates.notice ≤ dates.done
  pub by_today : dates.done ≤ today

abbrev pub IsTold : ℕ → HouseholdChange → Type 0
IsTold today (HouseholdChange.Interim interim) = CameInOrder today interim.dates
IsTold today (HouseholdChange.Resume resume) = (first_office_day ≤ resume.done) × (resume.done ≤ today)
IsTold today _ = ⊤

-- ---- records

-- the record corrects the one of that number, and keeps its kind, its unit and its dates
pub record Corrects (own : List Record) (number from : ℕ) (r : Record) : Type 0 where
  pub target : Record
  pub there : Contains own target
  pub is : target.number ≡ number
  pub corrects : r.corrects ≡ number
  pub from_day : r.from ≡ from
  pub kind : r.kind ≡ target.kind
  pub unit : r.unit ≡ target.unit
  pub dates : r.dates ≡ target.dates

-- with the record more the household is paid through its last day as before, and on no later day
pub record EndsWith (own : List Record) (last : ℕ) (r : Record) : Type 0 where
  pub through : (day : ℕ) → day ≤ last → assistance_on (own ++ r ∷ []) day ≡ assistance_on own day
  pub no_more : (day : ℕ) → last < day → assistance_on (own ++ r ∷ []) day ≡ 0

-- what the record of a change is
abbrev pub IsMade : List Record → HouseholdChange → Record → Type 0
IsMade own (HouseholdChange.Resume resume) r = 0 < r.assistance
IsMade own (HouseholdChange.Correct correct) r = Corrects own correct.target correct.from r
IsMade own (HouseholdChange.MoveOut move_out) r = EndsWith own move_out.last r
IsMade own _ r = ⊤

-- ---- acts

-- the clerk saw all of the household's records, the change was told in time, and its record is as it should be
pub record IsOfHousehold (own : List Record) (today : ℕ) (act : HouseholdAct) (made : Option Record) : Type 0 where
  pub seen : act.seen ≡ length own
  pub told : IsTold today act.change
  pub its_record : IfSome made (IsMade own act.change)

-- an admission brings assistance, and so does a resumed certification
abbrev pub MeetsTerms : Known → Batch → Command → Type 0
MeetsTerms known rows (Command.Admit admit) = IfSome rows.made (λ r. 0 < r.assistance)
MeetsTerms known rows (Command.Household act) = IsOfHousehold (own_in known act.household) rows.act.day act rows.made
MeetsTerms known rows _ = ⊤

abbrev pub ActsMeetTheirTerms : Type 0
ActsMeetTheirTerms = (capacity : Capacity) (book : Book) (rows : Batch) → IsReached capacity book → (appends : IsAppended capacity book rows) →
    MeetsTerms (known_of book) rows appends.call.command
