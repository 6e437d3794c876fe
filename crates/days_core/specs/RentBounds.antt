-- How high rents may be (own rule).
use Rattle.std.specs.Prelude.{ℕ}

-- the highest contract rent and the highest utility allowance, 99,999 and 9,999 dollars, together: no assistance is above it
abbrev pub most_gross_rent : ℕ
most_gross_rent = 109998
