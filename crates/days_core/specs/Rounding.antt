-- Own rule: an amount that ends in half a dollar is rounded up.
use Rattle.std.specs.Prelude.{ℕ, ◌+◌, ◌*◌, ◌/◌}

-- the whole number nearest to a fraction
abbrev pub round_half_up : ℕ → ℕ → ℕ
round_half_up numerator denominator = (2 * numerator + denominator) / (2 * denominator)
