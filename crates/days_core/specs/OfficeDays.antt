-- The days and months that an office knows.
use Rattle.std.specs.Prelude.{ℕ}

-- the first and the last day, 2000-01-01 and 2099-12-31 (own rule)
abbrev pub first_office_day : ℕ
first_office_day = 43829

abbrev pub last_office_day : ℕ
last_office_day = 80353

-- the first and the last month that are closed, 2000-01 and 2099-12 (own rule)
abbrev pub first_office_month : ℕ
first_office_month = 1440

abbrev pub last_office_month : ℕ
last_office_month = 2639
