-- When a household's certification is too old to be paid by (own rule).
use Rattle.std.specs.Prelude.{ℕ, ◌+◌, nat_le, Bool}
use Rattle.days_core.specs.Calendar.{month_of}

-- the day lies in a month that is fifteen or more months before the month
abbrev pub is_overdue : ℕ → ℕ → Bool
is_overdue base month = nat_le (month_of base + 15) month
