-- Which of some rows stands: the latest by an order.
use Rattle.std.specs.Prelude.{◌≡◌, ℕ, ◌&&◌, ◌||◌, ◌==◌, nat_lt, if◌then◌else◌, Bool, true, false, Option, Some, None, List, fold, filter, All, Contains, IfSome, IsSomeAnd}

-- the first of two pairs of numbers has the smaller first number, or the same and the smaller second one
abbrev pub comes_before : ℕ → ℕ → ℕ → ℕ → Bool
comes_before first second other_first other_second = nat_lt first other_first || (first == other_first && nat_lt second other_second)

-- the later of the best row so far and another
abbrev pub later : {Row : Type 0} → (Row → Row → Bool) → Option Row → Row → Option Row
later before None row = Some row
later before (Some best) row = if before best row then Some row else Some best

-- the latest of the rows, and of those between which the order doesn't decide the first
abbrev pub latest : {Row : Type 0} → (Row → Row → Bool) → List Row → Option Row
latest before rows = fold (later before) None rows

-- no row comes before itself, and what is after a row is behind nothing that the row is not behind
pub record IsRowOrder {Row : Type 0} (before : Row → Row → Bool) : Type 0 where
  pub itself : (row : Row) → before row row ≡ false
  pub ahead : (best row other : Row) → before best row ≡ true → before best other ≡ false → before row other ≡ false

-- It is the latest of the rows that pass: one of them, and none of them comes after it. It is None only where no row
-- passes.
pub record IsLatest {Row : Type 0} (before : Row → Row → Bool) (passes : Row → Bool) (rows : List Row) (answer : Option Row) : Type 0 where
  pub among : IfSome answer (λ row. Contains rows row × (passes row ≡ true))
  pub last : All (λ row. passes row ≡ true → IsSomeAnd answer (λ best. before best row ≡ false)) rows

-- by any order, the latest of the rows that pass is that
abbrev pub LatestIsLast : (Row : Type 0) → Type 0
LatestIsLast Row = (before : Row → Row → Bool) (passes : Row → Bool) (rows : List Row) →
    IsRowOrder before → IsLatest before passes rows (latest before (filter passes rows))
