-- What the rightful days come to.
use Rattle.due_dates.proofs.Words.{◌≡◌, ◌∙◌, ℕ, ◌+◌, ◌≤◌, sym, ap, arith, inl, inr, cases_lt, both_ways, leb-true, leb-false, month_of, month_in_year, month_place, first_of, last_office_day, days_in_bounds, first_of_mono, month_of_is, first_month_that, next_month, begins_from, first_start_from, has_anniversary_after, next_anniversary, BeginsMonth, IsMonthAfter, IsFirstStart, IsNextAnniversary}
use Rattle.due_dates.proofs.MonthLemmas.{first_of_above, first_of_below, month_of_by, first_month_that-is, first_start, anniversary, place_reached, reached, wait_of}

-- a month begins on its first day
month_of-first_of : (month : ℕ) → month ≤ 3839 → month_of (first_of month) ≡ month
month_of-first_of month h =
    let long = days_in_bounds month in
    month_of_is month (first_of month) (record { month_in = h; begun = omega arith; ends = omega arith })

begins : (month : ℕ) → month ≤ 3839 → BeginsMonth (first_of month)
begins month h = ap first_of (sym (month_of-first_of month h))

pub is_month_after : (day : ℕ) → day ≤ last_office_day → IsMonthAfter day (next_month day)
is_month_after day h =
    let in_calendar = month_of_by day (omega arith) in
    record {
      begins = begins (month_of day + 1) (omega arith);
      next = month_of-first_of (month_of day + 1) (omega arith);
    }

pub is_first_start : (day : ℕ) → day ≤ last_office_day + 30 → IsFirstStart day (first_start_from day)
is_first_start day h =
    let least = first_start day h in
    let month = first_month_that (begins_from day) in
    record {
      begins = begins month least.to_last;
      from_day = leb-true day (first_of month) least.this;
      none_between = λ other first from_day.
          elim (cases_lt (month_of other) month) [
            | inl less ↦ omega (arith, first, leb-false day (first_of (month_of other)) (least.none_earlier (month_of other) (omega arith) less))
            | inr more ↦ omega (arith, first, first_of_mono month (month_of other) more)
          ];
    }

pub is_next_anniversary : (opening after : ℕ) → after ≤ last_office_day → IsNextAnniversary opening after (next_anniversary opening after)
is_next_anniversary opening after h =
    let least = anniversary opening after h in
    let month = month_of after + 1 + wait_of opening after in
    let in_calendar = month_of_by after (omega arith) in
    rw (first_month_that-is (has_anniversary_after opening after) month least) (record {
      anniversary = record {
        begins = begins month least.to_last;
        same_month = ap month_place (month_of-first_of month least.to_last) ∙ ap (λ (place : ℕ). place + 1) (place_reached (month_of opening) (month_of after + 1));
      };
      later = first_of_above after month (omega arith) (omega arith);
      within_year = let own = month_of-first_of month least.to_last in omega arith;
      none_between = λ other is_one later.
          elim (cases_lt (month_of other) month) [
            | inl less ↦ absurd (both_ways (has_anniversary_after opening after (month_of other)) (least.none_earlier (month_of other) (omega arith) less)
                (reached opening after (month_of other) (omega (arith, is_one.same_month)) (omega (arith, is_one.begins))))
            | inr more ↦ omega (arith, is_one.begins, first_of_mono month (month_of other) more)
          ];
    })

-- where the last certification began in the month of the anniversary, the next anniversary is a year later
pub a_year_later : (opening after day : ℕ) → after ≤ last_office_day → IsNextAnniversary opening after day → month_in_year after ≡ month_in_year opening →
    month_of day ≡ month_of after + 12
a_year_later opening after day h next same =
    elim (cases_lt (month_of after) (month_of day)) [
      | inl later ↦ omega (arith, later, next.within_year, next.anniversary.same_month, same)
      | inr earlier ↦ absurd (omega (arith, next.later, next.anniversary.begins, first_of_below after (month_of day) (omega arith) earlier))
    ]
