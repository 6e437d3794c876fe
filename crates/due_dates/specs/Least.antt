-- The least number of a span that passes a test.
use Rattle.std.specs.Prelude.{ℕ, ◌+◌, ◌-◌, ◌<◌, ◌≤◌, ◌≡◌, Bool, true, false, Option, Some, None}
use Rattle.row_choice.specs.FirstDay.{first_day}

-- the least number from the first to the last that passes
unfoldable pub least_that : (ℕ → Bool) → ℕ → ℕ → Option ℕ
least_that passes first last = first_day passes first (last + 1 - first)

-- what it says of a number that it is the least one: it lies in the span and passes, and no earlier one there does
pub record IsLeastOne (passes : ℕ → Bool) (first last least : ℕ) : Type 0 where
  pub from_first : first ≤ least
  pub to_last : least ≤ last
  pub this : passes least ≡ true
  pub none_earlier : (n : ℕ) → first ≤ n → n < least → passes n ≡ false

-- the answer is the least number of the span that passes, and None only where none does
abbrev pub IsLeast : (ℕ → Bool) → ℕ → ℕ → Option ℕ → Type 0
IsLeast passes first last None = (n : ℕ) → first ≤ n → n ≤ last → passes n ≡ false
IsLeast passes first last (Some least) = IsLeastOne passes first last least
