-- What the clerk of a made office asks over two years, and on which days.
use Rattle.std.specs.Prelude.{ℕ, ◌+◌, ◌-◌, ◌*◌, ◌/◌, ◌%◌, ◌==◌, if◌then◌else◌, true, false, Bool, List, [], ◌∷◌, ◌++◌, filter, map, min, replicate, codes}
use Rattle.std.specs.List.{flat_map, range_with_len}
use Rattle.days_core.specs.Calendar.{day_number, first_of}
use Rattle.facts_core.specs.declared.{facts.Facts.Facts, incomes.IncomeKind.IncomeKind, members.Relation.Relation}
use Rattle.rent_table.specs.declared.plan.{Plan.Plan}
use Rattle.book_rows.specs.declared.{command.Command.Command, household.HouseholdChange.HouseholdChange, property.LimitsAct.LimitsAct, property.RentsAct.RentsAct}
use Rattle.generator.specs.declared.act.MadeAct.{MadeAct}

-- ---- months and days

-- the month of that place in the year, from 1 for January
abbrev pub month_at : ℕ → ℕ → ℕ
month_at year place = 12 * (year - 1880) + (place - 1)

abbrev pub opening_day : ℕ
opening_day = first_of (month_at 2024 1)

-- when every third household had its raise, and when it told of it
abbrev pub raise_came : ℕ
raise_came = day_number 2024 3 10

abbrev pub raise_told : ℕ
raise_told = day_number 2024 3 20

-- the last day of the household that moves out
abbrev pub left_on : ℕ
left_on = day_number 2025 10 15

-- asked on that day
abbrev pub on : ℕ → Command → MadeAct
on day asked = record { day = day; command = asked }

-- ---- households

-- every third household has a raise in its first year
abbrev pub has_raise : ℕ → Bool
has_raise number = number % 3 == 0

-- its admission, and its raise
abbrev pub records_at_first : ℕ → ℕ
records_at_first number = if has_raise number then 2 else 1

abbrev pub wages_of : ℕ → ℕ
wages_of number = 6000 + 40 * number

-- its wages after a year
abbrev pub later_wages_of : ℕ → ℕ
later_wages_of number = if has_raise number then wages_of number + 2000 else wages_of number

-- one person born in 1970, who earns these wages and has nothing else
abbrev pub earning : ℕ → Facts
earning wages = record {
  members = record { relation = Relation.Head; born = first_of (month_at 1970 1); disabled = false; student = false; helped = false; cared = false; eligible = true } ∷ [];
  incomes = record { member = 0; kind = IncomeKind.Wages; annual = wages } ∷ [];
  assets = [];
  disposals = [];
  care_work = 0;
  care_school = 0;
  disability = 0;
  medical = 0;
  welfare = 0;
  exempt = false;
}

abbrev pub digit_of : ℕ → ℕ
digit_of number = 48 + number % 10

abbrev pub three_digits : ℕ → List ℕ
three_digits number = digit_of (number / 100) ∷ digit_of (number / 10) ∷ digit_of number ∷ []

-- ---- the first day

abbrev pub plan_for : ℕ → Plan
plan_for expected = record {
  first = month_at 2024 1;
  early = false;
  method = 1;
  fiscal_month = 1;
  report_days = 30;
  passbook = 200;
  expected = expected;
  bounds =
      record { least = 1; most = 1 } ∷ record { least = 1; most = 2 } ∷ record { least = 2; most = 4 }
      ∷ record { least = 3; most = 6 } ∷ record { least = 4; most = 8 } ∷ record { least = 5; most = 10 } ∷ [];
  ranks = [];
}

-- the same for families of every size
abbrev pub limits : LimitsAct
limits = record { from = opening_day; low = replicate 12 48000; very_low = replicate 12 30000; extremely_low = replicate 12 18000 }

abbrev pub rents_from : ℕ → ℕ → RentsAct
rents_from day contract_rent = record { group = 1; from = day; rents = record { contract_rent = contract_rent; utility = 60 } }

abbrev pub opening_acts : ℕ → List MadeAct
opening_acts count =
    on opening_day (Command.Plan (plan_for count)) ∷ on opening_day (Command.Limits limits)
    ∷ on opening_day (Command.Rents (rents_from opening_day 700)) ∷ []

abbrev pub unit_added : ℕ → MadeAct
unit_added number =
    on opening_day (Command.Unit (record { name = codes "U" ++ three_digits number; group = 1; bedrooms = 1; accessible = false }))

abbrev pub application : ℕ → MadeAct
application number =
    on opening_day (Command.Apply (record { name = codes "H" ++ three_digits number; size = 1; persons = 1; preferences = []; accessible = false; annual = wages_of number }))

-- each applicant into the unit of the same number
abbrev pub admission : ℕ → MadeAct
admission number =
    on opening_day (Command.Admit (record { applicant = number; unit = number; from = opening_day; facts = earning (wages_of number) }))

abbrev pub entering_acts : List ℕ → List MadeAct
entering_acts numbers = map unit_added numbers ++ map application numbers ++ map admission numbers

-- ---- the two years

-- the clerk has seen that many of the household's records, which are all
abbrev pub of_household : ℕ → ℕ → HouseholdChange → Command
of_household household seen change = Command.Household (record { household = household; seen = seen; change = change })

abbrev pub interim : ℕ → MadeAct
interim number =
    on (first_of (month_at 2024 7))
    (of_household number 1 (HouseholdChange.Interim (record {
      dates = record { event = raise_came; notice = raise_told; done = first_of (month_at 2024 7) };
      from = first_of (month_at 2024 5);
      facts = earning (wages_of number + 2000);
    })))

abbrev pub annual : ℕ → MadeAct
annual number =
    on (first_of (month_at 2025 1))
    (of_household number (records_at_first number) (HouseholdChange.Annual (record { from = first_of (month_at 2025 1); facts = earning (later_wages_of number) })))

abbrev pub new_rents : MadeAct
new_rents = on (first_of (month_at 2025 7)) (Command.Rents (rents_from (first_of (month_at 2025 7)) 720))

abbrev pub gross : ℕ → MadeAct
gross number =
    on (first_of (month_at 2025 7))
    (of_household number (records_at_first number + 1) (HouseholdChange.Gross (record { from = first_of (month_at 2025 7) })))

abbrev pub move_out : MadeAct
move_out = on (first_of (month_at 2025 11)) (of_household 1 (records_at_first 1 + 2) (HouseholdChange.MoveOut (record { last = left_on })))

-- what is asked in a month before it is closed
abbrev pub acts_before_close : List ℕ → ℕ → List MadeAct
acts_before_close numbers month =
    if month == month_at 2024 7 then map interim (filter has_raise numbers)
    else (if month == month_at 2025 1 then map annual numbers
    else (if month == month_at 2025 7 then new_rents ∷ map gross numbers
    else (if month == month_at 2025 11 then move_out ∷ [] else [])))

-- on its first day
unfoldable pub month_acts : List ℕ → ℕ → List MadeAct
month_acts numbers month = acts_before_close numbers month ++ on (first_of month) (Command.Close (record { month = month })) ∷ []

-- ---- all

abbrev pub numbers_to : ℕ → List ℕ
numbers_to last = range_with_len 1 last

abbrev pub acts_of : ℕ → List MadeAct
acts_of count =
    opening_acts count ++ entering_acts (numbers_to count)
    ++ flat_map (month_acts (numbers_to count)) (range_with_len (month_at 2024 1) 24)

-- of an office of so many units; of 300 where more are wanted
abbrev pub made_acts : ℕ → List MadeAct
made_acts units = acts_of (min units 300)
