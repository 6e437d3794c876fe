-- The lines of a closing (form HUD-52670 in outline; the layout of a line is an own rule).
--
-- `own` gives each household all its records, and households have the numbers from 1 to the count.
use Rattle.std.specs.Prelude.{ℕ, ◌+◌, ◌-◌, ◌==◌, ◌&&◌, ℤ, pos, ◌+ℤ◌, ◌-ℤ◌, not, Bool, if◌then◌else◌, List, [], ◌∷◌, ◌++◌, map, filter}
use Rattle.std.specs.{List.range_with_len, List.flat_map, Ordering.int_eq}
use Rattle.days_core.specs.Calendar.{first_of, last_of}
use Rattle.record_history.specs.{declared.records.Record.Record, declared.stretch.Stretch.Stretch, Records.as_of, Runs.number_on, Stretch.stretches}
use Rattle.voucher_core.specs.{declared.changes.Change.Change, declared.closing.Closing.Closing, declared.line.Line.Line, Certified.certified_on}

-- the number of the record in force on the day by the old records, and of the one by the new ones
abbrev pub change_on : List Record → List Record → ℕ → Change
change_on old new day = record { old = number_on old day; new = number_on new day }

-- the same two numbers
abbrev pub is_same_change : Change → Change → Bool
is_same_change a b = a.old == b.old && a.new == b.new

-- the longest runs of days of the month with one old and one new record in force
abbrev pub changes : List Record → List Record → ℕ → List (Stretch Change)
changes old new month = stretches is_same_change (change_on old new) (first_of month) (last_of month + 1)

-- what is certified for the run by the new records, less what is by the old ones
abbrev pub difference : List Record → List Record → ℕ → Stretch Change → ℤ
difference old new month run = pos (certified_on new month run.first run.last) -ℤ pos (certified_on old month run.first run.last)

-- the line of a run, without its place
abbrev pub line_of : Closing → ℕ → ℕ → List Record → List Record → Stretch Change → Line
line_of closing household month old new run =
    record {
      act = closing.act;
      place = 0;
      month = closing.closed;
      household = household;
      for_month = month;
      first = run.first;
      last = run.last;
      old = run.key.old;
      new = run.key.new;
      amount = difference old new month run;
    }

-- the lines of one household for one month: a run whose difference is 0 has none
abbrev pub month_lines : Closing → ℕ → ℕ → List Record → List Record → List Line
month_lines closing household month old new =
    filter (λ l. not (int_eq l.amount (pos 0))) (map (line_of closing household month old new) (changes old new month))

-- The lines of all households for one month. `old` gives the records by which each was paid before, `new` those by which it
-- is paid now.
abbrev pub lines_for : (ℕ → List Record) → (ℕ → List Record) → ℕ → Closing → ℕ → List Line
lines_for old new count closing month = flat_map (λ h. month_lines closing h month (old h) (new h)) (range_with_len 1 count)

-- the records that each household has as of the act
abbrev pub known_as_of : (ℕ → List Record) → ℕ → ℕ → List Record
known_as_of own act household = as_of act (own household)

-- no month was closed before: the act of the last closing is 0
abbrev pub is_first : Closing → Bool
is_first closing = closing.last_close == 0

-- the lines for the months that were closed before: what has changed since the last closing
abbrev pub adjustment_lines : (ℕ → List Record) → ℕ → Closing → List Line
adjustment_lines own count closing =
    if is_first closing then []
    else flat_map (lines_for (known_as_of own closing.last_close) (known_as_of own closing.act) count closing) (range_with_len closing.first_month (closing.closed - closing.first_month))

-- The lines of a closing: the adjustments, and then the lines of the closed month, for which nothing was paid before.
abbrev pub closing_lines : (ℕ → List Record) → ℕ → Closing → List Line
closing_lines own count closing = adjustment_lines own count closing ++ lines_for (λ h. []) (known_as_of own closing.act) count closing closing.closed

-- the lines with their places, from this one on
abbrev pub placed : ℕ → List Line → List Line
placed place [] = []
placed place (l ∷ lines) = record l { place = place } ∷ placed (place + 1) lines

-- it pays that household for that month
abbrev pub is_for : ℕ → ℕ → Line → Bool
is_for household month l = l.household == household && l.for_month == month

-- what lines amount to together
abbrev pub total : List Line → ℤ
total [] = pos 0
total (l ∷ lines) = l.amount +ℤ total lines

-- what lines pay for a household and month
abbrev pub paid : ℕ → ℕ → List Line → ℤ
paid household month lines = total (filter (is_for household month) lines)
