-- What a list has at the point where a binary search ended.
use Rattle.row_index.proofs.Words.{◌≡◌, ◌≢◌, ℕ, zero, suc, ◌<◌, ◌≤◌, Bool, true, false, List, [], ◌∷◌, length, get_or, Option, Some, None, eqb, refl, arith, find, if◌then◌else◌, nat_lt, slice_get, AllWithin, IsPartitionPoint, IsNonDecreasingBy, false_from_ne_true, nat_tests, common_steps, find_fails, option_and_then}

-- the element that is there, where it passes
abbrev pub if_passes : {X : Type 0} → (X → Bool) → Option X → Option X
if_passes passes = option_and_then (λ x. if passes x then Some x else None)

-- no element before the place passes, and where one from there on passes, the one at the place does: then it alone may
-- be the first that passes
pub find_at_point : {X : Type 0} (passes : X → Bool) (xs : List X) (i : ℕ) → i ≤ length xs →
    AllWithin (λ x. passes x ≡ false) xs 0 i →
    ((j : ℕ) (d : X) → i ≤ j → j < length xs → passes (get_or xs j d) ≡ true → passes (get_or xs i d) ≡ true) →
    find passes xs ≡ if_passes passes (slice_get xs i)
find_at_point passes [] i le before from = refl
find_at_point passes (x ∷ xs) zero le before from = grind (arith, common_steps, none_after)
  where
    none_after : passes x ≡ false → find passes xs ≡ None
    none_after fails = find_fails passes xs (λ k d within. false_from_ne_true _ (λ is. (let first = from (suc k) d (omega arith) (omega (arith, within)) is in cc)))
find_at_point passes (x ∷ xs) (suc i) le before from =
    rw (before 0 x (omega arith) (omega arith))
    (find_at_point passes xs i (omega arith)
    (λ k d low high. before (suc k) d (omega arith) (omega arith))
    (λ j d low high is. from (suc j) d (omega arith) (omega arith) is))

-- of elements that never fall, the first with a number stands where those with smaller numbers end
pub find_number : {X : Type 0} (n : X → ℕ) (xs : List X) (a i : ℕ) → IsNonDecreasingBy n xs → i ≤ length xs →
    IsPartitionPoint (λ x. nat_lt (n x) a ≡ true) (λ x. nat_lt (n x) a ≡ false) xs i →
    find (λ x. eqb (n x) a) xs ≡ if_passes (λ x. eqb (n x) a) (slice_get xs i)
find_number n xs a i rise le point =
    find_at_point (λ x. eqb (n x) a) xs i le
    (λ k d low high. grind (arith, nat_tests, point.0 k d low high))
    (λ j d low high is. grind (arith, nat_tests, point.1 i d, rise i j d low high))

-- what a search finds by the element that was read at the point
module _ {X : Type 0} (passes : X → Bool) (xs : List X) (i : ℕ) (first : find passes xs ≡ if_passes passes (slice_get xs i)) (read : Option X) (there : read ≡ slice_get xs i) where
  pub found_there : (x : X) → read ≡ Some x → passes x ≡ true → Some x ≡ find passes xs
  found_there x is passed = rw (first, ← there, is, passed)

  pub found_not_there : (x : X) → read ≡ Some x → passes x ≡ false → None ≡ find passes xs
  found_not_there x is failed = rw (first, ← there, is, failed)

  pub nothing_there : read ≡ None → None ≡ find passes xs
  nothing_there is = rw (first, ← there, is)

-- the same of a number, among elements that never fall
module _ {X : Type 0} (n : X → ℕ) (xs : List X) (a i : ℕ) (rise : IsNonDecreasingBy n xs) (le : i ≤ length xs)
    (point : IsPartitionPoint (λ x. nat_lt (n x) a ≡ true) (λ x. nat_lt (n x) a ≡ false) xs i) (read : Option X) (there : read ≡ slice_get xs i) where
  pub number_there : (x : X) → read ≡ Some x → n x ≡ a → Some x ≡ find (λ y. eqb (n y) a) xs
  number_there x is same = found_there (λ y. eqb (n y) a) xs i (find_number n xs a i rise le point) read there x is (grind (arith, nat_tests))

  pub number_not_there : (x : X) → read ≡ Some x → n x ≢ a → None ≡ find (λ y. eqb (n y) a) xs
  number_not_there x is other = found_not_there (λ y. eqb (n y) a) xs i (find_number n xs a i rise le point) read there x is (grind (arith, nat_tests))

  pub number_past : read ≡ None → None ≡ find (λ y. eqb (n y) a) xs
  number_past is = nothing_there (λ y. eqb (n y) a) xs i (find_number n xs a i rise le point) read there is
