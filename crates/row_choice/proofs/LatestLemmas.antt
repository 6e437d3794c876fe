-- The latest row is one of the rows, and none comes after it.
use Rattle.std.proofs.Common.{◌≡◌, ℕ, Bool, true, false, List, [], ◌∷◌, arith}
use Rattle.std.specs.Prelude.{Option, None, fold, filter, All, Contains, IfSome, IsSomeAnd}
use Rattle.std.proofs.lemmas.{Bool.Decides.nat_tests, Grind.common_steps}
use Rattle.std.proofs.lemmas.List.Elements.{All-nil, All-cons, All-head, All-tail, All-filter, All-contains_itself, filter_passes}
use Rattle.row_choice.specs.Latest.{comes_before, later, latest, IsRowOrder, IsLatest}
use Rattle.list_laws.proofs.{Elements.All-both, Filters.All-passing}
pub use Rattle.list_laws.proofs.Filters.{filter-filter}

-- what holds of the rows holds of the latest
pub latest-among : {Row : Type 0} (before : Row → Row → Bool) (P : Row → Type 0) (best : Option Row) (rows : List Row) →
    IfSome best P → All P rows → IfSome (fold (later before) best rows) P
latest-among before P best [] of_best of_rows = of_best
latest-among before P best (row ∷ rows) of_best of_rows =
    latest-among before P (later before best row) rows (of_later best row of_best (All-head P row rows of_rows)) (All-tail P row rows of_rows)
  where
    of_later : (best : Option _) (row : _) → IfSome best P → P row → IfSome (later before best row) P
    of_later best row of_best of_row = grind (arith, common_steps)

module _ {Row : Type 0} (before : Row → Row → Bool) (order : IsRowOrder before) where
  -- the best row so far is not behind the other
  abbrev IsAhead : Option Row → Row → Type 0
  IsAhead best other = IsSomeAnd best (λ row. before row other ≡ false)

  ahead_of_itself : (best : Option Row) (row : Row) → IsAhead (later before best row) row
  ahead_of_itself best row = grind (arith, common_steps, order.itself row)

  stays_ahead : (best : Option Row) (row other : Row) → IsAhead best other → IsAhead (later before best row) other
  stays_ahead best row other ahead = grind (arith, common_steps, order.ahead)

  -- so the latest isn't either
  latest-ahead : (best : Option Row) (other : Row) (rows : List Row) → IsAhead best other → IsAhead (fold (later before) best rows) other
  latest-ahead best other [] ahead = ahead
  latest-ahead best other (row ∷ rows) ahead = latest-ahead (later before best row) other rows (stays_ahead best row other ahead)

  -- no row comes after the latest
  latest-last : (best : Option Row) (rows : List Row) → All (IsAhead (fold (later before) best rows)) rows
  latest-last best [] = All-nil (IsAhead best)
  latest-last best (row ∷ rows) =
      All-cons (IsAhead (fold (later before) (later before best row) rows)) row rows
      (latest-ahead (later before best row) row rows (ahead_of_itself best row)) (latest-last (later before best row) rows)

-- the latest of the rows that pass is what the law says
pub latest-is : {Row : Type 0} (before : Row → Row → Bool) (passes : Row → Bool) (rows : List Row) → IsRowOrder before →
    IsLatest before passes rows (latest before (filter passes rows))
latest-is before passes rows order = record {
  among = latest-among before (λ row. Contains rows row × (passes row ≡ true)) None (filter passes rows) tt
      (All-both (Contains rows) (λ row. passes row ≡ true) (filter passes rows)
      (All-filter passes (Contains rows) rows (All-contains_itself rows))
      (filter_passes passes rows));
  last = All-passing passes (IsAhead before order (latest before (filter passes rows))) rows (latest-last before order None (filter passes rows));
}

-- rows stand in an order by two of their numbers
pub pairs_order : {Row : Type 0} (first second : Row → ℕ) →
    IsRowOrder (λ row other. comes_before (first row) (second row) (first other) (second other))
pairs_order first second = record { itself = λ row. grind (arith, nat_tests); ahead = λ best row other after not_behind. grind (arith, nat_tests) }

-- the same of the order turned round
pub pairs_order-turned : {Row : Type 0} (first second : Row → ℕ) →
    IsRowOrder (λ row other. comes_before (first other) (second other) (first row) (second row))
pairs_order-turned first second = record { itself = λ row. grind (arith, nat_tests); ahead = λ best row other after not_behind. grind (arith, nat_tests) }
