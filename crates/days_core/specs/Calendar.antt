-- The civil calendar of the years 1880 to 2199.
--
-- A day is its number from 1880-01-01 and a month its number from 1880-01, both counted from 0. So days and
-- months are compared and moved by plain numbers.
use Rattle.std.specs.Prelude.{ℕ, zero, suc, ◌+◌, ◌-◌, ◌*◌, ◌/◌, ◌%◌, ◌&&◌, ◌||◌, ◌==◌, nat_lt, nat_le, int_le, min, if◌then◌else◌, ℤ, pos, ◌+ℤ◌, unsigned_abs, Bool, Option, Some, None}
use Rattle.jiff_core.specs.Calendar.{days_in_month}

-- 2199-12-31
abbrev pub last_day : ℕ
last_day = 116877

-- 2199-12
abbrev pub last_month : ℕ
last_month = 3839

-- the year in which a month lies
abbrev pub month_year : ℕ → ℕ
month_year month = 1880 + month / 12

-- and its place in that year, from 1 for January
abbrev pub month_place : ℕ → ℕ
month_place month = month % 12 + 1

-- how many days a month has, by the calendar of `jiff`
abbrev pub days_in : ℕ → ℕ
days_in month = days_in_month (pos (month_year month)) (month_place month)

-- the first day of a month: as many days lie before it as the earlier months have
unfoldable pub first_of : ℕ → ℕ
first_of zero = 0
first_of (suc month) = first_of month + days_in month

-- the last day of a month
abbrev pub last_of : ℕ → ℕ
last_of month = first_of (suc month) - 1

-- the last of the months up to this one that has begun by the day
unfoldable pub month_up_to : ℕ → ℕ → ℕ
month_up_to zero day = 0
month_up_to (suc month) day = if nat_le (first_of (suc month)) day then suc month else month_up_to month day

-- the month in which a day lies
abbrev pub month_of : ℕ → ℕ
month_of day = month_up_to last_month day

abbrev pub year_of : ℕ → ℕ
year_of day = month_year (month_of day)

-- the month's place in the year, from 1
abbrev pub month_in_year : ℕ → ℕ
month_in_year day = month_place (month_of day)

-- the day's place in the month, from 1
abbrev pub day_in_month : ℕ → ℕ
day_in_month day = day - first_of (month_of day) + 1

-- the number of the day with this year, month and day
abbrev pub day_number : ℕ → ℕ → ℕ → ℕ
day_number year month day = first_of (12 * (year - 1880) + (month - 1)) + (day - 1)

-- the calendar of the years 1880 to 2199 has a day with this year, month and day
abbrev pub is_date : ℕ → ℕ → ℕ → Bool
is_date year month day =
    (nat_le 1880 year && nat_le year 2199)
    && ((nat_le 1 month && nat_le month 12) && (nat_le 1 day && nat_le day (days_in_month (pos year) month)))

-- a month and day of the year that come before another
abbrev pub is_earlier_in_year : ℕ → ℕ → ℕ → ℕ → Bool
is_earlier_in_year month day other_month other_day =
    nat_lt month other_month || (month == other_month && nat_lt day other_day)

-- The age on a day: the years between, less one where this year's birthday is still to come. So whoever was
-- born on 29 February is a year older on 1 March of a common year (own rule).
abbrev pub age_on : ℕ → ℕ → ℕ
age_on born day =
    if is_earlier_in_year (month_in_year day) (day_in_month day) (month_in_year born) (day_in_month born)
    then year_of day - year_of born - 1
    else year_of day - year_of born

-- The same day of the year so many years before, or the last of February for 29 February of a common year
-- (own rule), where the calendar reaches back so far.
abbrev pub years_before : ℕ → ℕ → Option ℕ
years_before day years =
    if nat_le (1880 + years) (year_of day)
    then Some (day_number (year_of day - years) (month_in_year day) (min (day_in_month day) (days_in_month (pos (year_of day - years)) (month_in_year day))))
    else None

-- a number moved forward, or back by a negative count, and what stands there if it is at most the last
abbrev pub moved : ℕ → ℕ → ℤ → Option ℕ
moved last number count =
    if int_le (pos 0) (pos number +ℤ count) && int_le (pos number +ℤ count) (pos last) then Some (unsigned_abs (pos number +ℤ count)) else None
