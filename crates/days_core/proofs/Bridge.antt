-- The calendar of the definitions is that of `jiff`: from months counted in days to years, months and days.
use Rattle.std.proofs.Common.{◌≡◌, ℕ, zero, suc, ◌+◌, ◌-◌, ◌*◌, ◌%◌, ◌<◌, ◌≤◌, inl, inr, true, refl, ◌∙◌, arith, ℤ, pos, negsuc, ◌+ℤ◌, ◌≤ℤ◌, unsigned_abs}
use Rattle.std.proofs.lemmas.Bool.{cases_order, cases_lt, Decides.nat_tests, le-leb}
use Rattle.jiff_core.specs.{declared.civil.date.Date.Date, Calendar.day_count, Calendar.days_in_month, Date.epoch_day}
use Rattle.jiff_core.proofs.{SignedLemmas.signed_arith, MarchLemmas.day_count-early, DateLemmas.epoch_day_injective}
use Rattle.jiff_core.proofs.CalendarLemmas.{days_from_civil-day_count, day_count-day, day_count-next_month, day_count-next_year, day_count-last_of_year, days_in_month_bounds}
use Rattle.days_core.specs.Calendar.{last_month, month_year, month_place, days_in, first_of, last_of, month_up_to, month_of, year_of, month_in_year, day_in_month, day_number, is_date, is_earlier_in_year}

-- ---- months follow each other

-- the days of a December and the next January
january_after : (year : ℕ) → day_count (pos (year + 1)) 1 1 ≡ day_count (pos year) 12 1 + 31
january_after year =
    omega (arith, day_count-next_year (pos year) (pos (year + 1)) (omega (arith, signed_arith)) (omega (arith, signed_arith)), day_count-last_of_year (pos year), day_count-day (pos year) 12 1 31 (omega arith) (omega arith))

-- one month more, by cases on December
counted_on : (month : ℕ) → day_count (pos (month_year month)) (month_place month) 1 ≡ first_of month + 4_339_081 → day_count (pos (month_year (suc month))) (month_place (suc month)) 1 ≡ first_of month + days_in month + 4_339_081
counted_on month so_far =
    elim (cases_order (month % 12 + 1) 12) [
      | inl december ↦
          let place : month_place month ≡ 12 = december in
          let next_year : month_year (suc month) ≡ month_year month + 1 = omega arith in
          let next_place : month_place (suc month) ≡ 1 = omega arith in
          let was = rw place at so_far in
          let long : days_in month ≡ 31 = rw place in
          rw (next_year, next_place) (omega (arith, january_after (month_year month)))
      | inr (inl earlier) ↦
          let next_year : month_year (suc month) ≡ month_year month = omega arith in
          let next_place : month_place (suc month) ≡ month_place month + 1 = omega arith in
          rw (next_year, next_place) (omega (arith, day_count-next_month (pos (month_year month)) (month_place month) (omega arith)))
      | inr (inr later) ↦ absurd (omega arith)
    ]

-- the first of a month is so many days after 1 January of the year -10000
pub day_count-first_of : (month : ℕ) → day_count (pos (month_year month)) (month_place month) 1 ≡ first_of month + 4_339_081
unfolding first_of
day_count-first_of zero = day_count-early (pos 1880) 11879 1 1 refl (omega arith) (omega arith) (omega arith)
day_count-first_of (suc month) = counted_on month (day_count-first_of month)

-- the calendar ends with December 2199
pub first_of-end : first_of 3840 ≡ 116878
first_of-end = omega (arith, day_count-first_of 3840, day_count-early (pos 2200) 12199 1 1 refl (omega arith) (omega arith) (omega arith))

pub days_in_bounds : (month : ℕ) → (28 ≤ days_in month) × (days_in month ≤ 31)
days_in_bounds month = (let bounds = days_in_month_bounds (pos (month_year month)) (month_place month) in (bounds.1, bounds.0))

pub first_of-suc : (month : ℕ) → first_of (suc month) ≡ first_of month + days_in month
unfolding first_of
first_of-suc month = refl

pub first_of-zero : first_of 0 ≡ 0
unfolding first_of
first_of-zero = refl

pub first_of_mono : (month later : ℕ) → month ≤ later → first_of month ≤ first_of later
first_of_mono month zero h = grind arith
first_of_mono month (suc later) h = grind (arith, first_of-suc later, first_of_mono month later)

-- ---- the month of a day

-- it has begun
pub month_up_to_begins : (top day : ℕ) → first_of (month_up_to top day) ≤ day
unfolding month_up_to
month_up_to_begins zero day = rw first_of-zero (omega arith)
month_up_to_begins (suc top) day = grind (arith, nat_tests, month_up_to_begins top day)

pub month_up_to_bound : (top day : ℕ) → month_up_to top day ≤ top
unfolding month_up_to
month_up_to_bound zero day = omega arith
month_up_to_bound (suc top) day = grind (arith, nat_tests, month_up_to_bound top day)

-- and the next one hasn't
pub month_up_to_ends : (top day : ℕ) → day < first_of (suc top) → day < first_of (suc (month_up_to top day))
unfolding month_up_to
month_up_to_ends zero day h = h
month_up_to_ends (suc top) day h = grind (arith, nat_tests, month_up_to_ends top day)

-- a month that has begun by the day, and whose next month hasn't, is the month of the day
pub month_up_to_is : (top month day : ℕ) → month ≤ top → first_of month ≤ day → day < first_of (suc month) → month_up_to top day ≡ month
month_up_to_is top month day le begun ends =
    elim (cases_order (month_up_to top day) month) [
      | inl same ↦ same
      | inr (inl less) ↦ absurd (omega (arith, first_of_mono (suc (month_up_to top day)) month less, month_up_to_ends top day (omega (arith, first_of_mono (suc month) (suc top) (omega arith)))))
      | inr (inr more) ↦ absurd (omega (arith, first_of_mono (suc month) (month_up_to top day) more, month_up_to_begins top day))
    ]

-- a day of the calendar lies in a month of it
pub record IsInMonth (month day : ℕ) : Type 0 where
  pub month_in : month ≤ 3839
  pub begun : first_of month ≤ day
  pub ends : day < first_of month + days_in month

pub month_of_fits : (day : ℕ) → day ≤ 116877 → IsInMonth (month_of day) day
month_of_fits day h = record {
  month_in = month_up_to_bound last_month day;
  begun = month_up_to_begins last_month day;
  ends = omega (arith, first_of-suc (month_of day), month_up_to_ends last_month day (omega (arith, first_of-end)));
}

pub month_of_is : (month day : ℕ) → IsInMonth month day → month_of day ≡ month
month_of_is month day h = month_up_to_is last_month month day h.month_in h.begun (omega (arith, h.ends, first_of-suc month))

-- and a day of such a month lies in the calendar
pub day_in_range : (month day : ℕ) → IsInMonth month day → day ≤ 116877
day_in_range month day h = omega (arith, h.month_in, h.ends, first_of-suc month, first_of_mono (suc month) 3840 (omega (arith, h.month_in)), first_of-end)

-- ---- dates of `jiff`

-- the date of a day
pub date_of : (day : ℕ) → day ≤ 116877 → Date
date_of day h =
    let fits = month_of_fits day h in
    record {
      year = pos (year_of day);
      month = month_in_year day;
      day = day_in_month day;
      year_in = omega (arith, signed_arith, fits.month_in);
      month_in = (omega arith, omega arith);
      day_in = (omega arith, omega (arith, fits.begun, fits.ends));
    }

date_of-epoch_day : (day : ℕ) (h : day ≤ 116877) → epoch_day (date_of day h) +ℤ pos 4_371_587 ≡ pos (day + 4_338_715)
unfolding date_of
date_of-epoch_day day h =
    let fits = month_of_fits day h in
    let first = day_count-first_of (month_of day) in
    let here = day_count-day (pos (year_of day)) (month_in_year day) (day_in_month day) 1 (omega arith) (omega arith) in
    let number = days_from_civil-day_count (pos (year_of day)) (month_in_year day) (day_in_month day) in
    omega (arith, signed_arith, fits.begun)

-- a date with the number of a day has its year, month and day
pub parts_at : (date : Date) (day : ℕ) → day ≤ 116877 → epoch_day date +ℤ pos 4_371_587 ≡ pos (day + 4_338_715) → (date.year ≡ pos (year_of day)) × (date.month ≡ month_in_year day) × (date.day ≡ day_in_month day)
unfolding date_of
parts_at date day h number =
    let same = date_of-epoch_day day h in
    epoch_day_injective date (date_of day h) (omega (arith, signed_arith))

-- the month with this year and place
pub month_parts : (year place : ℕ) → 1880 ≤ year → year ≤ 2199 → 1 ≤ place → place ≤ 12 → (month_year (12 * (year - 1880) + (place - 1)) ≡ year) × (month_place (12 * (year - 1880) + (place - 1)) ≡ place) × (12 * (year - 1880) + (place - 1) ≤ 3839)
month_parts year place low high first last = (omega arith, omega arith, omega arith)

-- the days before a date of `jiff`, and the number of its day
pub number_at : (date : Date) (year days : ℕ) → date.year ≡ pos year → 1880 ≤ year → year ≤ 2199 → epoch_day date +ℤ pos 4_371_587 ≡ pos days
    → (days ≡ day_number year date.month date.day + 4_338_715) × IsInMonth (12 * (year - 1880) + (date.month - 1)) (day_number year date.month date.day)
number_at date year days same low high count =
    let month = 12 * (year - 1880) + (date.month - 1) in
    let named = month_parts year date.month low high date.month_in.0 date.month_in.1 in
    let first = rw (named.0, named.1) at (day_count-first_of month) in
    let here = day_count-day (pos year) date.month date.day 1 date.day_in.0 (omega arith) in
    let number = rw same at (days_from_civil-day_count date.year date.month date.day) in
    let known = rw same at count in
    let long : days_in month ≡ days_in_month (pos year) date.month = rw (named.0, named.1) refl in
    let last : date.day ≤ days_in_month (pos year) date.month = rw same at date.day_in.1 in
    (omega (arith, signed_arith, date.day_in.0), record { month_in = named.2; begun = omega arith; ends = omega (arith, date.day_in.0) })

-- each day has its own year, month and day
pub day_number-parts : (day : ℕ) → day ≤ 116877 → day_number (year_of day) (month_in_year day) (day_in_month day) ≡ day
day_number-parts day h =
    let fits = month_of_fits day h in
    let month : 12 * (year_of day - 1880) + (month_in_year day - 1) ≡ month_of day = omega arith in
    rw month (omega (arith, fits.begun))

pub pos-unsigned_abs : (z : ℤ) → pos 0 ≤ℤ z → z ≡ pos (unsigned_abs z)
pos-unsigned_abs (pos n) h = refl
pos-unsigned_abs (negsuc n) h = absurd (omega (arith, signed_arith))

-- the same of a date whose year is signed
pub number_of_date : (date : Date) (days : ℕ) → pos 1880 ≤ℤ date.year → date.year ≤ℤ pos 2199 → epoch_day date +ℤ pos 4_371_587 ≡ pos days
    → (days ≡ day_number (unsigned_abs date.year) date.month date.day + 4_338_715) × IsInMonth (12 * (unsigned_abs date.year - 1880) + (date.month - 1)) (day_number (unsigned_abs date.year) date.month date.day)
number_of_date date days low high count =
    let same = pos-unsigned_abs date.year (omega (arith, signed_arith)) in
    number_at date (unsigned_abs date.year) days same (omega (arith, signed_arith)) (omega (arith, signed_arith)) count

-- ---- order

pub month_of_mono : (day later : ℕ) → day ≤ later → later ≤ 116877 → month_of day ≤ month_of later
month_of_mono day later h last =
    elim (cases_lt (month_of later) (month_of day)) [
      | inl less ↦ absurd (omega (arith, first_of_mono (suc (month_of later)) (month_of day) less, first_of-suc (month_of later), (month_of_fits day (omega arith)).begun, (month_of_fits later last).ends))
      | inr more ↦ more
    ]

pub year_of_mono : (day later : ℕ) → day ≤ later → later ≤ 116877 → year_of day ≤ year_of later
year_of_mono day later h last = omega (arith, month_of_mono day later h last)

-- a later day whose month and day come earlier in the year lies in a later year
pub year_of-lt : (day later : ℕ) → day ≤ later → later ≤ 116877 → is_earlier_in_year (month_in_year later) (day_in_month later) (month_in_year day) (day_in_month day) ≡ true → year_of day < year_of later
year_of-lt day later h last earlier =
    grind (arith, nat_tests, month_of_mono day later h last, (month_of_fits day (omega arith)).begun, (month_of_fits later last).begun)

-- ---- the test of a date

-- the bounds of a date, and the test
pub is_date-from : (year month day : ℕ) → 1880 ≤ year → year ≤ 2199 → 1 ≤ month → month ≤ 12 → 1 ≤ day → day ≤ days_in_month (pos year) month → is_date year month day ≡ true
is_date-from year month day a b c d e f =
    rw (le-leb 1880 year a, le-leb year 2199 b, le-leb 1 month c, le-leb month 12 d, le-leb 1 day e, le-leb day (days_in_month (pos year) month) f) refl

pub is_date-again : (day : ℕ) → day ≤ 116877 → is_date (year_of day) (month_in_year day) (day_in_month day) ≡ true
is_date-again day h =
    let fits = month_of_fits day h in
    is_date-from (year_of day) (month_in_year day) (day_in_month day) (omega arith) (omega (arith, fits.month_in)) (omega arith) (omega arith) (omega arith) (omega (arith, fits.begun, fits.ends))

pub is_date-parts : (year month day number : ℕ) → year ≡ year_of number → month ≡ month_in_year number → day ≡ day_in_month number → number ≤ 116877 → is_date year month day ≡ true
is_date-parts year month day number years months days h = rw (years, months, days) (is_date-again number h)

pub last_of-day_number : (month year place days : ℕ) → year ≡ month_year month → place ≡ month_place month → days ≡ days_in_month (pos year) place → day_number year place days ≡ last_of month
last_of-day_number month year place days years places long =
    let same : 12 * (year - 1880) + (place - 1) ≡ month = omega arith in
    let bounds = days_in_bounds month in
    let whole : days ≡ days_in month = long ∙ rw (years, places) refl in
    rw (same, first_of-suc) (omega arith)

-- what the test says of a date
pub record IsDate (year month day : ℕ) : Type 0 where
  pub first_year : 1880 ≤ year
  pub last_year : year ≤ 2199
  pub month_first : 1 ≤ month
  pub month_last : month ≤ 12
  pub day_first : 1 ≤ day
  pub day_last : day ≤ days_in_month (pos year) month

pub is_date-says : (year month day : ℕ) → is_date year month day ≡ true → IsDate year month day
is_date-says year month day e = grind (arith, nat_tests)
