-- A book that the file tells after a batch has landed: the book that it told before, with the batch.
use Rattle.std.proofs.Common.{◌≡◌, Bool, true, false, not, List, [], ◌∷◌, ◌++◌, map, option_map, find, Some, None, refl, Ordering, Less, IsPermutation, if◌then◌else◌}
use Rattle.std.specs.List.{AllByRecursion}
use Rattle.std.specs.Cmp.{IsTotalOrder}
use Rattle.std.proofs.lemmas.List.Sorted.{IsPermutation-trans, IsPermutation-sym}
use Rattle.sqlite.specs.Tree.{IsAscending}
use Rattle.sqlite_value.specs.Order.{Row}
use Rattle.sqlite_keyed.proofs.ListLemmas.{ascending-append}
use Rattle.keeper_sqlite.proofs.Back.{Before, before}
use Rattle.keeper_sqlite.proofs.Orders.{same_rise}

-- no row is bad where each fits, and the other way round
module _ {X Y : Type 0} (fits : X → Bool) (name : X → Y) where
  pub fit_each : (xs : List X) → option_map name (find (λ x. not (fits x)) xs) ≡ None → AllByRecursion (λ x. fits x ≡ true) xs
  fit_each [] h = tt
  fit_each (x ∷ xs) h = go (fits x) refl h (fit_each xs)
    where
      go : (b : Bool) → fits x ≡ b → option_map name (if not b then Some x else find (λ y. not (fits y)) xs) ≡ None
          → (option_map name (find (λ y. not (fits y)) xs) ≡ None → AllByRecursion (λ y. fits y ≡ true) xs) → AllByRecursion (λ y. fits y ≡ true) (x ∷ xs)
      go true e rest on = (e, on rest)
      go false e rest on = absurd (cc)

  pub none_bad : (xs : List X) → AllByRecursion (λ x. fits x ≡ true) xs → option_map name (find (λ x. not (fits x)) xs) ≡ None
  none_bad [] h = refl
  none_bad (x ∷ xs) h = rw h.0 (none_bad xs h.1)

module _ {X : Type 0} (F : X → Row) (only : (a b : X) → F a ≡ F b → a ≡ b) (cmp : X → X → Ordering) (total : IsTotalOrder cmp) (fits : X → Bool) where
  -- the rows that a table stood for before these came to it
  pub table_before : (old new : List Row) (bs xs : List X) → IsPermutation (old ++ map F bs) new → IsPermutation (map F xs) new → IsAscending (λ a b. cmp a b ≡ Less) xs → AllByRecursion (λ x. fits x ≡ true) xs
      → Before F only (λ a b. cmp a b ≡ Less) (λ x. fits x ≡ true) old bs xs
  table_before old new bs xs adds stands rise all = before F only _ _ old bs xs (IsPermutation-trans _ _ _ adds (IsPermutation-sym _ _ stands)) rise all

  -- those that came stand after them
  pub table_after : (us bs xs : List X) → IsPermutation (us ++ bs) xs → IsAscending (λ a b. cmp a b ≡ Less) us → IsAscending (λ a b. cmp a b ≡ Less) bs
      → AllByRecursion (λ a. AllByRecursion (λ b. cmp a b ≡ Less) bs) us → IsAscending (λ a b. cmp a b ≡ Less) xs → xs ≡ us ++ bs
  table_after us bs xs together up_us up_bs across rise = same_rise cmp total (us ++ bs) xs (ascending-append (λ a b. cmp a b ≡ Less) us bs up_us up_bs across) together rise
