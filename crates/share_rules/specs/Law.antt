-- What the shares of days come to, said without how they are rounded one by one.
use Rattle.std.specs.Prelude.{ℕ, ◌+◌, ◌*◌, ◌≤◌, ◌<◌, sum_by}
use Rattle.std.specs.List.{range_with_len}
use Rattle.share_rules.specs.Shares.{day_share}

-- the whole number is the fraction to the nearest one, and half of one goes up
pub record IsNearest (whole numerator denominator : ℕ) : Type 0 where
  pub not_above : 2 * denominator * whole ≤ 2 * numerator + denominator
  pub not_below : 2 * numerator + denominator < 2 * denominator * whole + 2 * denominator

-- The days of a month up to any one take the amount in proportion to their number, to the nearest dollar.
abbrev pub SharesTotalTheirPart : Type 0
SharesTotalTheirPart = (amount last days : ℕ) → 0 < days → last ≤ days →
    IsNearest (sum_by (λ day. day_share amount day days) (range_with_len 1 last)) (amount * last) days

-- no day takes more than the amount
abbrev pub NoShareIsAboveTheAmount : Type 0
NoShareIsAboveTheAmount = (amount day days : ℕ) → 0 < days → day ≤ days → day_share amount day days ≤ amount
