-- What acts of the manual ask.
use Rattle.std.specs.Prelude.{ℕ, true, false, List, [], ◌∷◌, replicate, codes}
use Rattle.facts_core.specs.declared.{facts.Facts.Facts, incomes.IncomeKind.IncomeKind, members.Relation.Relation}
use Rattle.book_rows.specs.declared.{command.Command.Command, household.HouseholdChange.HouseholdChange}
use Rattle.manual_acts.specs.Days.{january, on_1953_06_01, on_1980_01_01, on_2024_01_01, on_2024_02_10, on_2024_07_01, on_2025_01_01, on_2025_03_01, on_2025_03_20, on_2025_04_01}

-- ---- facts

-- one person who was born on the day, with one income and some medical expenses
abbrev pub living_alone : ℕ → IncomeKind → ℕ → ℕ → Facts
living_alone born kind annual medical = record {
  members = record { relation = Relation.Head; born = born; disabled = false; student = false; helped = false; cared = false; eligible = true } ∷ [];
  incomes = record { member = 0; kind = kind; annual = annual } ∷ [];
  assets = [];
  disposals = [];
  care_work = 0;
  care_school = 0;
  disability = 0;
  medical = medical;
  welfare = 0;
  exempt = false;
}

-- Ada Reed's: her benefits and medical expenses
abbrev pub reed : ℕ → ℕ → Facts
reed benefits medical = living_alone on_1953_06_01 IncomeKind.Benefits benefits medical

-- those of Bo Lund and of Cy Moss: their wages
abbrev pub earning : ℕ → Facts
earning wages = living_alone on_1980_01_01 IncomeKind.Wages wages 0

-- ---- the property

abbrev pub plan : Command
plan = Command.Plan (record {
  first = january;
  early = false;
  method = 1;
  fiscal_month = 1;
  report_days = 30;
  passbook = 200;
  expected = 10;
  bounds =
      record { least = 1; most = 1 } ∷ record { least = 1; most = 2 } ∷ record { least = 2; most = 4 }
      ∷ record { least = 3; most = 6 } ∷ record { least = 4; most = 8 } ∷ record { least = 5; most = 10 } ∷ [];
  ranks = 1 ∷ 2 ∷ [];
})

abbrev pub unit : List ℕ → Command
unit name = Command.Unit (record { name = name; group = 1; bedrooms = 1; accessible = false })

abbrev pub rents : ℕ → ℕ → Command
rents from contract_rent = Command.Rents (record { group = 1; from = from; rents = record { contract_rent = contract_rent; utility = 60 } })

abbrev pub limits : Command
limits = Command.Limits (record { from = on_2024_01_01; low = replicate 12 48000; very_low = replicate 12 30000; extremely_low = replicate 12 18000 })

-- ---- the waiting list

abbrev pub apply : List ℕ → List ℕ → ℕ → Command
apply name preferences annual =
    Command.Apply (record { name = name; size = 1; persons = 1; preferences = preferences; accessible = false; annual = annual })

abbrev pub remove : Command
remove = Command.Remove (record { applicant = 2 })

-- ---- new households

abbrev pub start : Command
start = Command.Start (record { name = codes "Ada Reed"; unit = 1; from = on_2024_01_01; facts = reed 9600 1000 })

-- to the second unit
abbrev pub admit : ℕ → ℕ → Command
admit applicant from = Command.Admit (record { applicant = applicant; unit = 2; from = from; facts = earning 9000 })

-- ---- the month

abbrev pub close : ℕ → Command
close month = Command.Close (record { month = month })

-- ---- a household's certifications

abbrev pub of_household : ℕ → ℕ → HouseholdChange → Command
of_household household seen change = Command.Household (record { household = household; seen = seen; change = change })

-- Ada Reed's benefits rose on 2024-02-10
abbrev pub interim : ℕ → ℕ → ℕ → Command
interim notice done from = of_household 1 1 (HouseholdChange.Interim (record {
  dates = record { event = on_2024_02_10; notice = notice; done = done };
  from = from;
  facts = reed 11520 1000;
}))

-- of record 1
abbrev pub correct : ℕ → ℕ → ℕ → Facts → Command
correct household seen from facts = of_household household seen (HouseholdChange.Correct (record { target = 1; from = from; facts = facts }))

abbrev pub withdraw : Command
withdraw = of_household 1 3 (HouseholdChange.Withdraw (record { target = 2 }))

abbrev pub gross : ℕ → ℕ → Command
gross household seen = of_household household seen (HouseholdChange.Gross (record { from = on_2024_07_01 }))

abbrev pub annual : ℕ → Facts → Command
annual seen facts = of_household 1 seen (HouseholdChange.Annual (record { from = on_2025_01_01; facts = facts }))

-- ---- another unit

abbrev pub ask_transfer : Command
ask_transfer = Command.AskTransfer (record { household = 2; wanted = true; accessible = false })

abbrev pub transfer : Command
transfer = of_household 2 2 (HouseholdChange.Transfer (record { unit = 3; from = on_2025_01_01 }))

-- ---- assistance ends, begins again

abbrev pub terminate : Command
terminate = of_household 2 3 (HouseholdChange.Terminate (record { from = on_2025_03_01 }))

abbrev pub resume : Command
resume = of_household 2 4 (HouseholdChange.Resume (record { done = on_2025_03_20; from = on_2025_04_01; facts = earning 9000 }))

abbrev pub move_out : ℕ → ℕ → ℕ → Command
move_out household seen last = of_household household seen (HouseholdChange.MoveOut (record { last = last }))
