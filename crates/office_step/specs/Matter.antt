-- What a command is about: what it names, which days it tells, and of what kind its record is. No other definition of what
-- stands against a command, or of the record that it makes, asks which command it is.
use Rattle.std.specs.Prelude.{ℕ, ◌+◌, Bool, true, false, Option, Some, None, List, length, unwrap_or}
use Rattle.std.specs.Option.{option_map, option_or}
use Rattle.record_history.specs.declared.records.{Dates.Dates, Kind.Kind, Record.Record}
use Rattle.wait_list.specs.declared.ask.Candidate.{Candidate}
use Rattle.book_rows.specs.declared.{command.Command.Command, household.HouseholdChange.HouseholdChange}
use Rattle.office_step.specs.{declared.moving.MoveIn.MoveIn, Known.Known, Known.own_in}
pub use Rattle.office_step.specs.Basis.{Basis, from_facts, carried, nothing, certifies, basis_in, basis_of}

-- What is known when it is asked, and what the command says:
-- * whether it gives a plan, the month that it closes, the name of the unit that it adds, and from which day on it sets
--   rents or limits;
-- * which household, applicant and unit it names, the record that it corrects or withdraws, and the newest record of the
--   household that the clerk saw;
-- * the days on which a change came about, was told and was worked on; the first day of its record, and the last day of a
--   household that moves out;
-- * the kind of its record, unless it has that of the record that it corrects; on what that rests; who moves where by it;
--   and whether assistance begins by it.
pub record Matter : Type 0 where
  pub known : Known
  pub gives_plan : Bool
  pub month : Option ℕ
  pub name : Option (List ℕ)
  pub sets_from : Option ℕ
  pub household : Option ℕ
  pub applicant : Option ℕ
  pub unit : Option ℕ
  pub target : Option ℕ
  pub seen : Option ℕ
  pub told : Option Dates
  pub from : Option ℕ
  pub last : Option ℕ
  pub kind : Option Kind
  pub basis : Basis
  pub moves : Option MoveIn
  pub begins : Bool

-- a command that says nothing of all this
abbrev pub quiet : Known → Matter
quiet known = record {
  known = known;
  gives_plan = false;
  month = None;
  name = None;
  sets_from = None;
  household = None;
  applicant = None;
  unit = None;
  target = None;
  seen = None;
  told = None;
  from = None;
  last = None;
  kind = None;
  basis = nothing;
  moves = None;
  begins = false;
}

-- one that makes a record of that kind and first day
abbrev pub recording : Known → Kind → ℕ → Matter
recording known kind from = record (quiet known) { kind = Some kind; from = Some from }

-- all three days are the one on which the work was done
abbrev pub resumed_dates : ℕ → Option Dates
resumed_dates done = Some (record { event = done; notice = done; done = done })

abbrev pub move_in : Candidate → ℕ → ℕ → Option MoveIn
move_in candidate unit from = Some (record { candidate = candidate; unit = unit; from = from })

-- what a change of the household says
abbrev pub said_in : Known → ℕ → HouseholdChange → Matter
said_in known household (HouseholdChange.Annual annual) = recording known Kind.AR annual.from
said_in known household (HouseholdChange.Interim interim) =
    record (recording known Kind.IR interim.from) { told = Some interim.dates }
said_in known household (HouseholdChange.Resume resume) =
    record (recording known Kind.IC resume.from) { told = resumed_dates resume.done; begins = true }
said_in known household (HouseholdChange.Gross gross) = recording known Kind.GR gross.from
said_in known household (HouseholdChange.Correct correct) =
    record (quiet known) { target = Some correct.target; from = Some correct.from }
said_in known household (HouseholdChange.Transfer transfer) = record (recording known Kind.UT transfer.from) {
  unit = Some transfer.unit;
  moves = move_in (Candidate.Household household) transfer.unit transfer.from;
}
said_in known household (HouseholdChange.MoveOut move_out) = record (quiet known) { kind = Some Kind.MO; last = Some move_out.last }
said_in known household (HouseholdChange.Terminate terminate) = recording known Kind.TM terminate.from
said_in known household (HouseholdChange.Withdraw withdraw) = record (quiet known) { kind = Some Kind.WD; target = Some withdraw.target }

-- what a command says
abbrev pub said_by : Known → Command → Matter
said_by known (Command.Plan plan) = record (quiet known) { gives_plan = true }
said_by known (Command.Unit unit) = record (quiet known) { name = Some unit.name }
said_by known (Command.Rents rents) = record (quiet known) { sets_from = Some rents.from }
said_by known (Command.Limits limits) = record (quiet known) { sets_from = Some limits.from }
said_by known (Command.Apply apply) = quiet known
said_by known (Command.Remove remove) = record (quiet known) { applicant = Some remove.applicant }
said_by known (Command.Start start) =
    record (recording known Kind.IC start.from) { unit = Some start.unit }
said_by known (Command.Admit admit) = record (recording known Kind.MI admit.from) {
  applicant = Some admit.applicant;
  unit = Some admit.unit;
  moves = move_in (Candidate.Applicant admit.applicant) admit.unit admit.from;
  begins = true;
}
said_by known (Command.AskTransfer ask) = record (quiet known) { household = Some ask.household }
said_by known (Command.Household act) =
    record (said_in known act.household act.change) { household = Some act.household; seen = Some act.seen }
said_by known (Command.Close close) = record (quiet known) { month = Some close.month }

-- what a command is about
abbrev pub matter_of : Known → Command → Matter
matter_of known asked = record (said_by known asked) { known = known; basis = basis_of asked }

-- ---- what is found at once

-- the household that it names, or the one that comes next
abbrev pub household_of : Matter → ℕ
household_of about = unwrap_or about.household (length about.known.households + 1)

-- that household's records
abbrev pub own : Matter → List Record
own about = own_in about.known (household_of about)

-- the first day of its record
abbrev pub begins_on : Matter → ℕ
begins_on about = unwrap_or (option_or about.from (option_map (λ last. last + 1) about.last)) 0
