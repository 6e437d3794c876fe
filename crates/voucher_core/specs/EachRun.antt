-- The lines of a closing, told by the days that they pay for.
--
-- A run is some days one after another of one household and month. Nothing of how runs are found occurs here.
use Rattle.std.specs.Prelude.{ℕ, ◌+◌, ◌-◌, ◌⊎◌, ◌<◌, ◌≤◌, ◌≡◌, ◌≢◌, ◌==◌, false, pos, ◌-ℤ◌, if◌then◌else◌, List, length, All, Any, AllPairs, slice_index_or}
use Rattle.days_core.specs.Calendar.{first_of, last_of}
use Rattle.record_history.specs.{declared.records.Record.Record, Records.as_of, Runs.number_on, Held.AreNumbered}
use Rattle.voucher_core.specs.{declared.closing.Closing.Closing, declared.line.Line.Line, Naming.shares_of, Lines.closing_lines, Lines.is_first, Lines.placed}

-- The number of the record by which the household's day of that month was paid before: of the one in force as of the last
-- closing, and 0 in the month that is closed only now.
abbrev pub old_on : (ℕ → List Record) → Closing → ℕ → ℕ → ℕ → ℕ
old_on own closing household month day = if month == closing.closed then 0 else number_on (as_of closing.last_close (own household)) day

-- the number of the record by which it is paid now: of the one in force as of this act
abbrev pub new_on : (ℕ → List Record) → Closing → ℕ → ℕ → ℕ
new_on own closing household day = number_on (as_of closing.act (own household)) day

-- on the day these two are the old record and the new one
abbrev pub HasPair : (ℕ → ℕ) → (ℕ → ℕ) → ℕ → ℕ → ℕ → Type 0
HasPair old_on new_on old new day = (old_on day ≡ old) × (new_on day ≡ new)

-- Of the days from the lowest to the highest, those from the first to the last are a longest run with one pair: each of
-- them has it, and the day before them and the day after them, where they are such days, have another.
pub record IsLongestRun (old_on new_on : ℕ → ℕ) (lowest highest first last old new : ℕ) : Type 0 where
  pub from : lowest ≤ first
  pub in_order : first ≤ last
  pub to : last ≤ highest
  pub on_each : (day : ℕ) → first ≤ day → day ≤ last → HasPair old_on new_on old new day
  pub before : lowest < first → ¬ (HasPair old_on new_on old new (first - 1))
  pub after : last < highest → ¬ (HasPair old_on new_on old new (last + 1))

-- a closing pays for the month that it closes, and where there was one before, for each from the first month up to it
abbrev pub IsPaidFor : Closing → ℕ → Type 0
IsPaidFor closing month =
    (month ≡ closing.closed) ⊎ ((is_first closing ≡ false) × (closing.first_month ≤ month) × (month < closing.closed))

-- A line tells a run that the closing is to pay: a longest run of one of its households and months. It amounts to the
-- shares of these days by the new record less those by the old one, and isn't for 0.
pub record TellsRun (own : ℕ → List Record) (count : ℕ) (closing : Closing) (l : Line) : Type 0 where
  pub of_act : l.act ≡ closing.act
  pub closes : l.month ≡ closing.closed
  pub is_household : (1 ≤ l.household) × (l.household ≤ count)
  pub is_paid_for : IsPaidFor closing l.for_month
  pub run : IsLongestRun (old_on own closing l.household l.for_month) (new_on own closing l.household) (first_of l.for_month) (last_of l.for_month) l.first l.last l.old l.new
  pub amount : l.amount ≡ pos (shares_of (own l.household) l.new l) -ℤ pos (shares_of (own l.household) l.old l)
  pub not_for_nothing : l.amount ≢ pos 0

-- by the month that is paid for, then by the household, then by the first day
abbrev pub ComesBefore : Line → Line → Type 0
ComesBefore a b = (a.for_month < b.for_month)
    ⊎ ((a.for_month ≡ b.for_month) × ((a.household < b.household) ⊎ ((a.household ≡ b.household) × (a.first < b.first))))

-- Each line tells a run, and each run that a line could tell is told; a line comes before the next ones, so that no run is
-- told twice; and the places count up from the first.
pub record TellEachRun (own : ℕ → List Record) (count : ℕ) (closing : Closing) (place : ℕ) (lines : List Line) : Type 0 where
  pub each_line : All (TellsRun own count closing) lines
  pub each_run : (l : Line) → TellsRun own count closing l → Any (λ told. told ≡ record l { place = told.place }) lines
  pub in_order : AllPairs ComesBefore lines
  pub places : (at : ℕ) (d : Line) → at < length lines → (slice_index_or lines at d).place ≡ place + at

-- Where each household's records are numbered from 1, the lines of a closing tell each run, once.
abbrev pub LinesTellEachRun : Type 0
LinesTellEachRun = (own : ℕ → List Record) (count : ℕ) (closing : Closing) (place : ℕ) →
    ((household : ℕ) → AreNumbered (own household)) →
    TellEachRun own count closing place (placed place (closing_lines own count closing))
