-- Rows that rise by their keys have one order, and so have the rows of a batch after those before it.
use Rattle.std.proofs.Common.{◌≡◌, ℕ, zero, suc, ◌+◌, ◌<◌, ◌≤◌, false, List, [], ◌∷◌, length, get_or, ap, ◌∙◌, arith, add-one, Ordering, Less, is_lt, IsPermutation}
use Rattle.std.specs.Cmp.{IsTotalOrder}
use Rattle.std.specs.Ordering.{ordering_reverse}
use Rattle.sqlite.specs.Tree.{IsAscending}
use Rattle.sqlite_keyed.proofs.SortLemmas.{sorted_unique}

module _ {X : Type 0} (cmp : X → X → Ordering) (total : IsTotalOrder cmp) where
  sorted_from : (xs : List X) → IsAscending (λ a b. cmp a b ≡ Less) xs → (k : ℕ) (d : X) → 0 ≤ k → k + 1 < length xs → is_lt (cmp (get_or xs (k + 1) d) (get_or xs k d)) ≡ false
  sorted_from [] up k d low high = absurd (omega arith)
  sorted_from (x ∷ []) up k d low high = absurd (omega arith)
  sorted_from (x ∷ y ∷ xs) up zero d low high = ap is_lt (total.antisymm y x ∙ ap ordering_reverse up.0.0)
  sorted_from (x ∷ y ∷ xs) up (suc k) d low high = rw add-one (rw add-one at (sorted_from (y ∷ xs) up.1 k d (omega arith) (omega arith)))

  -- rows that rise, in another order in which they rise, are the same list
  pub same_rise : (xs ys : List X) → IsAscending (λ a b. cmp a b ≡ Less) xs → IsPermutation xs ys → IsAscending (λ a b. cmp a b ≡ Less) ys → ys ≡ xs
  same_rise xs ys up same rise = sorted_unique cmp total xs ys up same (sorted_from ys rise)
