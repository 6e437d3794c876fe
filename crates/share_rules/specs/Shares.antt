-- What the days of a month take of an amount for the whole month (own rule), in whole dollars.
--
-- Days are numbered from 1 within their month, which has so many days.
use Rattle.std.specs.Prelude.{ℕ, ◌+◌, ◌-◌, ◌*◌, sum_by}
use Rattle.std.specs.List.{range_with_len}
use Rattle.days_core.specs.Rounding.{round_half_up}

-- what the days up to this one take, in proportion to their number
abbrev pub share_to : ℕ → ℕ → ℕ → ℕ
share_to amount day days = round_half_up (amount * day) days

-- the share of one day: what the days up to it take, less what the days before it take
abbrev pub day_share : ℕ → ℕ → ℕ → ℕ
day_share amount day days = share_to amount day days - share_to amount (day - 1) days

-- the shares of the days from the first to the last together
abbrev pub run_share : ℕ → ℕ → ℕ → ℕ → ℕ
run_share amount first last days = sum_by (λ day. day_share amount day days) (range_with_len first (last + 1 - first))
