-- A day as text, YYYY-MM-DD, both ways.
use Rattle.std.specs.Prelude.{ℕ, ◌+◌, ◌-◌, ◌*◌, ◌/◌, ◌%◌, ◌&&◌, ◌==◌, nat_le, if◌then◌else◌, List, [], ◌∷◌, ◌++◌, Option, Some, None}
use Rattle.days_core.specs.Calendar.{month_year, month_place, year_of, month_in_year, day_in_month, day_number, is_date}

-- a number below 100 in two digits
abbrev pub two_digits : ℕ → List ℕ
two_digits number = (48 + number / 10) ∷ (48 + number % 10) ∷ []

-- four digits for the year, two for the month and two for the day, with dashes between
abbrev pub day_text : ℕ → List ℕ
day_text day =
    two_digits (year_of day / 100) ++ two_digits (year_of day % 100)
    ++ 45 ∷ two_digits (month_in_year day) ++ 45 ∷ two_digits (day_in_month day)

-- four digits for the year and two for the month
abbrev pub month_text : ℕ → List ℕ
month_text month = two_digits (month_year month / 100) ++ two_digits (month_year month % 100) ++ 45 ∷ two_digits (month_place month)

infixl 10 ◌>>=◌
abbrev pub ◌>>=◌ : {A B : Type 0} → Option A → (A → Option B) → Option B
None >>= f = None
(Some x) >>= f = f x

abbrev pub digit_from : ℕ → Option ℕ
digit_from byte = if nat_le 48 byte && nat_le byte 57 then Some (byte - 48) else None

abbrev pub two_digits_from : ℕ → ℕ → Option ℕ
two_digits_from tens ones = do
  ten ← digit_from tens
  one ← digit_from ones
  Some (10 * ten + one)

abbrev pub day_named : ℕ → ℕ → ℕ → Option ℕ
day_named year month day = if is_date year month day then Some (day_number year month day) else None

-- the day that a text names
unfoldable pub day_from : List ℕ → Option ℕ
day_from (c ∷ d ∷ y ∷ z ∷ dash ∷ m ∷ n ∷ second_dash ∷ e ∷ f ∷ []) =
    if dash == 45 && second_dash == 45 then (do
      century ← two_digits_from c d
      year ← two_digits_from y z
      month ← two_digits_from m n
      day ← two_digits_from e f
      day_named (100 * century + year) month day)
    else None
day_from _ = None

abbrev pub month_named : ℕ → ℕ → Option ℕ
month_named year place = if is_date year place 1 then Some (12 * (year - 1880) + (place - 1)) else None

-- the month that a text names
unfoldable pub month_from : List ℕ → Option ℕ
month_from (c ∷ d ∷ y ∷ z ∷ dash ∷ m ∷ n ∷ []) =
    if dash == 45 then (do
      century ← two_digits_from c d
      year ← two_digits_from y z
      place ← two_digits_from m n
      month_named (100 * century + year) place)
    else None
month_from _ = None
