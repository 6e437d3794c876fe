-- On what the record of a command rests.
use Rattle.std.specs.Prelude.{Bool, true, false}
use Rattle.facts_core.specs.declared.facts.Facts.{Facts}
use Rattle.book_rows.specs.declared.{command.Command.Command, household.HouseholdChange.HouseholdChange}

-- what a record certifies comes of facts, or of what was certified before, or it certifies nothing
pub data Basis : Type 0 where
  from_facts : Facts → Basis
  carried : Basis
  nothing : Basis

abbrev pub certifies : Basis → Bool
certifies nothing = false
certifies _ = true

-- of a change of the household
abbrev pub basis_in : HouseholdChange → Basis
basis_in (HouseholdChange.Annual annual) = from_facts annual.facts
basis_in (HouseholdChange.Interim interim) = from_facts interim.facts
basis_in (HouseholdChange.Resume resume) = from_facts resume.facts
basis_in (HouseholdChange.Correct correct) = from_facts correct.facts
basis_in (HouseholdChange.Gross gross) = carried
basis_in (HouseholdChange.Transfer transfer) = carried
basis_in _ = nothing

abbrev pub basis_of : Command → Basis
basis_of (Command.Start start) = from_facts start.facts
basis_of (Command.Admit admit) = from_facts admit.facts
basis_of (Command.Household act) = basis_in act.change
basis_of _ = nothing
