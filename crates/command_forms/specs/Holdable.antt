-- Commands that a program can hold: each number fits 32 bits, and each day and month is of the years 1880 to 2199.
--
-- The fields that a fit command bounds further are left out.
use Rattle.std.specs.Prelude.{ℕ, ◌<◌, ◌≤◌, ◌^◌, ⊤}
use Rattle.facts_core.specs.Facts.{FactsFit}
use Rattle.record_history.specs.declared.records.Dates.{Dates}
use Rattle.book_rows.specs.declared.{household.HouseholdChange.HouseholdChange, command.Command.Command}
use Rattle.days_core.specs.Calendar.{last_day}

-- a number of an applicant, a household, a unit or a record
abbrev pub IsNumber : ℕ → Type 0
IsNumber number = number < 2 ^ 32

abbrev pub IsDay : ℕ → Type 0
IsDay day = day ≤ last_day

abbrev pub IsMonth : ℕ → Type 0
IsMonth month = month ≤ 3839

pub record AreDates (dates : Dates) : Type 0 where
  pub event : IsDay dates.event
  pub notice : IsDay dates.notice
  pub done : IsDay dates.done

abbrev pub IsHoldableChange : HouseholdChange → Type 0
IsHoldableChange (HouseholdChange.Annual annual) = IsDay annual.from × FactsFit annual.facts
IsHoldableChange (HouseholdChange.Interim interim) = AreDates interim.dates × IsDay interim.from × FactsFit interim.facts
IsHoldableChange (HouseholdChange.Resume resume) = IsDay resume.done × IsDay resume.from × FactsFit resume.facts
IsHoldableChange (HouseholdChange.Gross gross) = IsDay gross.from
IsHoldableChange (HouseholdChange.Correct correct) = IsNumber correct.target × IsDay correct.from × FactsFit correct.facts
IsHoldableChange (HouseholdChange.Transfer transfer) = IsNumber transfer.unit × IsDay transfer.from
IsHoldableChange (HouseholdChange.MoveOut move_out) = IsDay move_out.last
IsHoldableChange (HouseholdChange.Terminate terminate) = IsDay terminate.from
IsHoldableChange (HouseholdChange.Withdraw withdraw) = IsNumber withdraw.target

abbrev pub IsHoldable : Command → Type 0
IsHoldable (Command.Rents rents) = IsDay rents.from
IsHoldable (Command.Limits limits) = IsDay limits.from
IsHoldable (Command.Remove remove) = IsNumber remove.applicant
IsHoldable (Command.Start start) = IsNumber start.unit × IsDay start.from × FactsFit start.facts
IsHoldable (Command.Admit admit) = IsNumber admit.applicant × IsNumber admit.unit × IsDay admit.from × FactsFit admit.facts
IsHoldable (Command.AskTransfer ask) = IsNumber ask.household
IsHoldable (Command.Household act) = IsNumber act.household × IsNumber act.seen × IsHoldableChange act.change
IsHoldable (Command.Close close) = IsMonth close.month
IsHoldable _ = ⊤
