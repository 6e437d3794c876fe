-- Numbers in decimal digits.
use Rattle.std.specs.Prelude.{ℕ, ◌+◌, ◌-◌, ◌*◌, ◌&&◌, ◌==◌, nat_le, if◌then◌else◌, Bool, false, List, [], ◌∷◌, Option, Some, None}
use Rattle.std.specs.Str.{all_ascii_digits}

-- one digit or more, and nothing else
abbrev pub is_numeral : List ℕ → Bool
is_numeral [] = false
is_numeral (digit ∷ digits) = all_ascii_digits (digit ∷ digits)

-- the number that digits write when they follow those of another
abbrev pub number_after : ℕ → List ℕ → ℕ
number_after number [] = number
number_after number (digit ∷ digits) = number_after (10 * number + (digit - 48)) digits

-- the number that digits write
abbrev pub number_of : List ℕ → ℕ
number_of digits = number_after 0 digits

abbrev pub if_between : ℕ → ℕ → ℕ → Option ℕ
if_between least most number = if nat_le least number && nat_le number most then Some number else None

-- the number of a range that a text writes in digits; zeros may lead
unfoldable pub number_between : ℕ → ℕ → List ℕ → Option ℕ
number_between least most text = if is_numeral text then if_between least most (number_of text) else None

abbrev pub begins_with_zero : List ℕ → Bool
begins_with_zero [] = false
begins_with_zero (digit ∷ digits) = digit == 48

-- the same, where no zero leads
unfoldable pub plain_number_between : ℕ → ℕ → List ℕ → Option ℕ
plain_number_between least most text = if begins_with_zero text then None else number_between least most text
