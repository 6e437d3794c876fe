-- Whom admissions and transfers take.
use Rattle.std.specs.Prelude.{◌≡◌, ⊤, ℕ, Some, Contains}
use Rattle.rent_table.specs.{declared.plan.Plan.Plan, declared.rows.Unit.Unit as UnitRow}
use Rattle.wait_list.specs.{declared.ask.Candidate.Candidate, declared.targets.Targets.Targets, Next.Asked, RightfulNext.IsRightAnswer}
use Rattle.book_rows.specs.{declared.rows.Batch.Batch, declared.command.Command.Command, declared.household.HouseholdChange.HouseholdChange, Book.Book}
use Rattle.office_step.specs.{declared.call.Capacity.Capacity, Known.Known, Known.known_of, Step.IsAppended, Step.IsReached}
use Rattle.office_laws.specs.{Movers.IsAsked, Targets.AreCounted}

-- there are a plan and the unit, and by what is asked about the unit on the day the candidate is rightly next: by the persons
-- and incomes of those who wait, by ranks and acts, by who would move, and by the admissions of the fiscal year
pub record IsNextFor (known : Known) (unit day : ℕ) (candidate : Candidate) : Type 0 where
  pub plan : Plan
  pub row : UnitRow
  pub asked : Asked
  pub targets : Targets
  pub is_plan : known.plan ≡ Some plan
  pub held : Contains known.units row
  pub numbered : row.number ≡ unit
  pub is_asked : IsAsked known plan row day asked
  pub counted : AreCounted known plan day targets
  pub rightly : IsRightAnswer targets asked known.waiting (Some candidate)

-- an admission takes the applicant, and a transfer the household, that is next for its unit on its first day
abbrev pub TakesNextBy : Known → ℕ → HouseholdChange → Type 0
TakesNextBy known household (HouseholdChange.Transfer transfer) = IsNextFor known transfer.unit transfer.from (Candidate.Household household)
TakesNextBy known household _ = ⊤

abbrev pub TakesNext : Known → Command → Type 0
TakesNext known (Command.Admit admit) = IsNextFor known admit.unit admit.from (Candidate.Applicant admit.applicant)
TakesNext known (Command.Household act) = TakesNextBy known act.household act.change
TakesNext known _ = ⊤

abbrev pub NextIsTaken : Type 0
NextIsTaken = (capacity : Capacity) (book : Book) (rows : Batch) → IsReached capacity book → (appends : IsAppended capacity book rows) →
    TakesNext (known_of book) appends.call.command
