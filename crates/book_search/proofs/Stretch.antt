-- The elements of a number in a list that never falls: one stretch of it.
use Rattle.book_search.proofs.Words.{◌≡◌, ℕ, zero, suc, ◌<◌, ◌≤◌, true, false, List, [], ◌∷◌, length, get_or, take, drop, eqb, refl, sym, ap, arith, filter, AllPairs, nat_lt, nat_le, nat_tests}
use Rattle.std.specs.List.Sorted.{IsPartitionPoint, IsNonDecreasingBy}
use Rattle.list_laws.proofs.Filters.{filter_none}

smaller : (m a : ℕ) → nat_lt m a ≡ true → eqb m a ≡ false
smaller m a is = grind (arith, nat_tests)

greater : (m a : ℕ) → nat_le m a ≡ false → eqb m a ≡ false
greater m a is = grind (arith, nat_tests)

same : (m a : ℕ) → nat_lt m a ≡ false → nat_le m a ≡ true → eqb m a ≡ true
same m a no_smaller no_greater = grind (arith, nat_tests)

-- from the point where smaller numbers end to that where greater ones begin
pub filter_stretch : {X : Type 0} (n : X → ℕ) (xs : List X) (a i j : ℕ) → i ≤ length xs → j ≤ length (drop i xs) →
    IsPartitionPoint (λ x. nat_lt (n x) a ≡ true) (λ x. nat_lt (n x) a ≡ false) xs i →
    IsPartitionPoint (λ x. nat_le (n x) a ≡ true) (λ x. nat_le (n x) a ≡ false) (drop i xs) j →
    take j (drop i xs) ≡ filter (λ x. eqb (n x) a) xs
filter_stretch n [] a zero zero le up first last = refl
filter_stretch n [] a zero (suc j) le up first last = absurd (omega (arith, up))
filter_stretch n [] a (suc i) j le up first last = absurd (omega (arith, le))
filter_stretch n (x ∷ xs) a (suc i) j le up first last =
    rw (smaller (n x) a (first.0 0 x (omega arith) (omega arith)))
    (filter_stretch n xs a i j (omega (arith, le)) up
    (λ k d low high. first.0 (suc k) d (omega arith) (omega (arith, high)), λ k d low high. first.1 (suc k) d (omega (arith, low)) (omega (arith, high)))
    last)
filter_stretch n (x ∷ xs) a zero zero le up first last =
    sym (filter_none (λ y. eqb (n y) a) (x ∷ xs) (λ k d within. greater (n (get_or (x ∷ xs) k d)) a (last.1 k d (omega arith) within)))
filter_stretch n (x ∷ xs) a zero (suc j) le up first last =
    rw (same (n x) a (first.1 0 x (omega arith) (omega arith)) (last.0 0 x (omega arith) (omega arith)))
    (ap (λ ys. x ∷ ys) (filter_stretch n xs a zero j (omega arith) (omega (arith, up))
    (λ k d low high. absurd (omega (arith, high)), λ k d low high. first.1 (suc k) d (omega arith) (omega (arith, high)))
    (λ k d low high. last.0 (suc k) d (omega arith) (omega (arith, high)), λ k d low high. last.1 (suc k) d (omega (arith, low)) (omega (arith, high)))))

-- numbers that rise never fall
pub never_falls_either : {X : Type 0} (n : X → ℕ) (xs : List X) → AllPairs (λ x next. n x ≤ n next) xs → IsNonDecreasingBy n xs
never_falls_either n xs rise i j d le within = grind (arith, rise i j d)

pub never_falls : {X : Type 0} (n : X → ℕ) (xs : List X) → AllPairs (λ x next. n x < n next) xs → IsNonDecreasingBy n xs
never_falls n xs rise i j d le within = grind (arith, rise i j d)
