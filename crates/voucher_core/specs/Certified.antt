-- What a household is certified for: on a day, on some days of a month, and in a month. No closing and no line occurs in it.
--
-- Each definition takes the records that are known, all of one household.
use Rattle.std.specs.Prelude.{ℕ, ◌+◌, ◌-◌, List, sum_by}
use Rattle.std.specs.Option.{option_map_or}
use Rattle.days_core.specs.Calendar.{days_in, first_of, last_of}
use Rattle.record_history.specs.{declared.records.Record.Record, Records.in_force, Stretch.days}
use Rattle.share_rules.specs.Shares.{day_share}

-- the assistance for the whole month of the record in force on the day, and 0 where none is
abbrev pub assistance_on : List Record → ℕ → ℕ
assistance_on records day = option_map_or (λ r. r.assistance) (in_force records day) 0

-- the share of a day of the month in the assistance on that day
abbrev pub share_on : List Record → ℕ → ℕ → ℕ
share_on records month day = day_share (assistance_on records day) (day + 1 - first_of month) (days_in month)

-- what a household is certified for on days of a month, from the first to the last: the shares of these days
abbrev pub certified_on : List Record → ℕ → ℕ → ℕ → ℕ
certified_on records month first last = sum_by (share_on records month) (days first (last + 1))

-- and in the whole month
abbrev pub certified_amount : List Record → ℕ → ℕ
certified_amount records month = certified_on records month (first_of month) (last_of month)
