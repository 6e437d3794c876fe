-- Which month is the first that passes, and the months of the days that an office meets.
use Rattle.due_dates.proofs.Words.{◌≡◌, ◌≢◌, ℕ, zero, suc, ◌+◌, ◌-◌, ◌*◌, ◌%◌, ◌<◌, ◌≤◌, Bool, true, false, Option, Some, ap, arith, inl, inr, unwrap_or, cases_lt, cases_eq, le-leb, lt-leb, lt-ltb, le-ltb, eq-eqb, ne_eqb, and_right, month_of, month_in_year, month_place, first_of, last_month, last_office_day, days_in_bounds, first_of-suc, first_of_mono, first_of-end, month_of_fits, IsLeastOne, first_month_that, begins_from, has_anniversary_after}
use Rattle.due_dates.proofs.LeastLemmas.{least_that-is}

-- so many months have at most 31 days each
first_of_within : (month more : ℕ) → first_of (more + month) ≤ first_of month + 31 * more
first_of_within month zero = grind arith
first_of_within month (suc more) = grind (arith, first_of_within month more, first_of-suc (more + month), days_in_bounds (more + month))

-- a month begins after all days of the months before it
pub first_of_above : (day month : ℕ) → day ≤ 116877 → month_of day < month → day < first_of month
first_of_above day month in_range later =
    let fits = month_of_fits day in_range in
    omega (arith, fits.ends, first_of-suc (month_of day), first_of_mono (suc (month_of day)) month later)

-- and by then where the day lies in it or in a later one
pub first_of_below : (day month : ℕ) → day ≤ 116877 → month ≤ month_of day → first_of month ≤ day
first_of_below day month in_range earlier =
    let fits = month_of_fits day in_range in
    omega (arith, fits.begun, first_of_mono month (month_of day) earlier)

-- a day up to 2100-01-30 leaves more than a year of the calendar behind it
pub month_of_by : (day : ℕ) → day ≤ last_office_day + 30 → month_of day ≤ 3827
month_of_by day h =
    elim (cases_lt 3827 (month_of day)) [
      | inl late ↦ absurd (omega (arith, first_of_within 3828 12, first_of-end, first_of_below day 3828 (omega arith) (omega arith)))
      | inr early ↦ early
    ]

-- the first month that passes
pub first_month_that-is : (passes : ℕ → Bool) (month : ℕ) → IsLeastOne passes 0 last_month month → first_month_that passes ≡ month
first_month_that-is passes month is = ap (λ (o : Option ℕ). unwrap_or o (last_month + 1)) (least_that-is passes 0 last_month (Some month) is)

-- a first of the month begins the first month from it on
pub first_start-own : (day : ℕ) → day ≤ last_office_day + 30 → first_of (month_of day) ≡ day → IsLeastOne (begins_from day) 0 last_month (month_of day)
first_start-own day h is =
    let in_calendar = month_of_by day h in
    record {
      from_first = omega arith;
      to_last = omega arith;
      this = le-leb day (first_of (month_of day)) (omega arith);
      none_earlier = λ n low less. lt-leb day (first_of n) (omega (arith, days_in_bounds n, first_of-suc n, first_of_mono (suc n) (month_of day) less));
    }

-- and from another day on that is the next month
pub first_start-next : (day : ℕ) → day ≤ last_office_day + 30 → first_of (month_of day) ≢ day → IsLeastOne (begins_from day) 0 last_month (month_of day + 1)
first_start-next day h other =
    let in_calendar = month_of_by day h in
    let begun = first_of_below day (month_of day) (omega arith) (omega arith) in
    record {
      from_first = omega arith;
      to_last = omega arith;
      this = le-leb day _ (omega (arith, first_of_above day (month_of day + 1) (omega arith) (omega arith)));
      none_earlier = λ n low less. lt-leb day (first_of n) (omega (arith, first_of_mono n (month_of day) (omega (arith, less))));
    }

-- so there is one
pub first_start : (day : ℕ) → day ≤ last_office_day + 30 → IsLeastOne (begins_from day) 0 last_month (first_month_that (begins_from day))
first_start day h =
    elim (cases_eq (first_of (month_of day)) day) [
      | inl own ↦ let is = first_start-own day h own in rw (first_month_that-is (begins_from day) (month_of day) is) is
      | inr other ↦ let is = first_start-next day h other in rw (first_month_that-is (begins_from day) (month_of day + 1) is) is
    ]

-- the next month at a place in the year
pub place_reached : (place next : ℕ) → (next + (place % 12 + 12 - next % 12) % 12) % 12 ≡ place % 12
place_reached place next = omega arith

-- none before it is at that place
place_missed : (place next month : ℕ) → next ≤ month → month < next + (place % 12 + 12 - next % 12) % 12 → month % 12 ≢ place % 12
place_missed place next month low high same = omega arith

-- a month begins with an anniversary later than the day
pub reached : (opening after month : ℕ) → month % 12 ≡ month_of opening % 12 → after < first_of month → has_anniversary_after opening after month ≡ true
reached opening after month place later = rw (lt-ltb after (first_of month) later) (rw (eq-eqb (month_place month) (month_in_year opening) (omega arith)))

missed : (opening after month : ℕ) → month % 12 ≢ month_of opening % 12 → has_anniversary_after opening after month ≡ false
missed opening after month other = rw (ne_eqb (month_place month) (month_in_year opening) (λ same. other (omega arith)))

passed : (opening after month : ℕ) → first_of month ≤ after → has_anniversary_after opening after month ≡ false
passed opening after month begun = and_right _ _ (le-ltb after (first_of month) begun)

-- how many months after the next one the next anniversary is
abbrev pub wait_of : ℕ → ℕ → ℕ
wait_of opening after = (month_of opening % 12 + 12 - (month_of after + 1) % 12) % 12

-- that month is the first with an anniversary later than the day
pub anniversary : (opening after : ℕ) → after ≤ last_office_day → IsLeastOne (has_anniversary_after opening after) 0 last_month (month_of after + 1 + wait_of opening after)
anniversary opening after h =
    let next = month_of after + 1 in
    let in_calendar = month_of_by after (omega arith) in
    record {
      from_first = omega arith;
      to_last = omega arith;
      this = reached opening after (next + wait_of opening after)
          (place_reached (month_of opening) next)
          (first_of_above after (next + wait_of opening after) (omega arith) (omega arith));
      none_earlier = λ n low less.
          elim (cases_lt n next) [
            | inl begun ↦ passed opening after n (first_of_below after n (omega arith) (omega arith))
            | inr later ↦ missed opening after n (place_missed (month_of opening) next n later less)
          ];
    }
