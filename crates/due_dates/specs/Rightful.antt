-- The day on which a certification may take effect: a profile after Handbook 4350.3 REV-1, chapter 7; the tables are
-- own rules.
use Rattle.std.specs.Prelude.{ℕ, ◌+◌, ◌≤◌, ◌&&◌, ◌==◌, nat_lt, nat_le, if◌then◌else◌, Bool, unwrap_or}
use Rattle.days_core.specs.{Calendar.month_of, Calendar.month_in_year, Calendar.month_place, Calendar.first_of, Calendar.last_month, OfficeDays.last_office_day}
use Rattle.record_history.specs.declared.records.Dates.{Dates}
use Rattle.due_dates.specs.{declared.due.Due.Due, Least.least_that}

-- the first month that passes, and the one after the calendar's last where none does
abbrev pub first_month_that : (ℕ → Bool) → ℕ
first_month_that passes = unwrap_or (least_that passes 0 last_month) (last_month + 1)

-- the first day of the month after that of the day
abbrev pub next_month : ℕ → ℕ
next_month day = first_of (month_of day + 1)

-- the month begins on the day or later
abbrev pub begins_from : ℕ → ℕ → Bool
begins_from day month = nat_le day (first_of month)

-- the first day of the first month that begins on the day or later
abbrev pub first_start_from : ℕ → ℕ
first_start_from day = first_of (first_month_that (begins_from day))

-- the household told of the change at most so many days after it came about
abbrev pub is_in_time : Dates → ℕ → Bool
is_in_time dates report_days = nat_le dates.notice (dates.event + report_days)

-- Of a change that was told in time, a higher payment begins with the first month that begins at least thirty days
-- after the household told of it, and another with the month after the change. Of one that was told late, a higher
-- payment begins with the month after the change, and another with the month after the work on it was done.
abbrev pub interim_day : Dates → Bool → ℕ → ℕ
interim_day dates higher report_days =
    if is_in_time dates report_days
    then (if higher then first_start_from (dates.notice + 30) else next_month dates.event)
    else (if higher then next_month dates.event else next_month dates.done)

-- the month begins with an anniversary, which is the first day, in any year, of the month of the opening day, and that
-- anniversary is later than the day
abbrev pub has_anniversary_after : ℕ → ℕ → ℕ → Bool
has_anniversary_after opening after month = month_place month == month_in_year opening && nat_lt after (first_of month)

-- the first anniversary later than the day
abbrev pub next_anniversary : ℕ → ℕ → ℕ
next_anniversary opening after = first_of (first_month_that (has_anniversary_after opening after))

-- the day on which the certification may take effect
abbrev pub rightful_day_of : Due → ℕ
rightful_day_of (Due.Interim dates higher report_days) = interim_day dates higher report_days
rightful_day_of (Due.Annual opening after) = next_anniversary opening after
rightful_day_of (Due.Resume done) = next_month done

-- the days come no later than the last that an office knows (own rule)
abbrev pub IsInRange : Due → Type 0
IsInRange (Due.Interim dates higher report_days) =
    (dates.event ≤ last_office_day) × (dates.notice ≤ last_office_day) × (dates.done ≤ last_office_day)
IsInRange (Due.Annual opening after) = (opening ≤ last_office_day) × (after ≤ last_office_day)
IsInRange (Due.Resume done) = done ≤ last_office_day
