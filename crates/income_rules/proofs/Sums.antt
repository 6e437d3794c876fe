-- Sums over lists and over numbers, and what bounds them.
use Rattle.income_rules.proofs.Words.{◌≡◌, ℕ, ◌+◌, ◌*◌, ◌≤◌, ◌<◌, zero, suc, true, Bool, cond, List, [], ◌∷◌, length, refl, arith, nat_tests, ◌==◌, filter, sum_by, list_all, range_with_len, sum_by-cons, sum_by-le, sum_by-le-sum_by, common_steps, AllPass-from_list_all}

-- ---- bounds

-- a sum of terms that a test bounds
pub sum_by-bounded : {X : Type 0} (f : X → ℕ) (p : X → Bool) (most : ℕ) → ((x : X) → p x ≡ true → f x ≤ most) → (xs : List X) → list_all p xs ≡ true → sum_by f xs ≤ length xs * most
sum_by-bounded f p most bound xs all = sum_by-le f most xs (λ k d within. bound _ (AllPass-from_list_all p xs all k d within))

pub cond-le : (b : Bool) (v : ℕ) → cond b v 0 ≤ v
cond-le b v = grind (arith, common_steps)

-- the sum of what passes a test, term by term
pub sum_by-filter : {X : Type 0} (f : X → ℕ) (p : X → Bool) (xs : List X) → sum_by f (filter p xs) ≡ sum_by (λ x. cond (p x) (f x) 0) xs
sum_by-filter f p [] = refl
sum_by-filter f p (x ∷ xs) = grind (arith, common_steps, sum_by-filter f p xs)

-- what passes a test has no greater sum than all
pub sum_by-filter-le : {X : Type 0} (f : X → ℕ) (p : X → Bool) (xs : List X) → sum_by f (filter p xs) ≤ sum_by f xs
sum_by-filter-le f p xs = omega (arith, sum_by-filter f p xs, sum_by-le-sum_by (λ x. cond (p x) (f x) 0) f xs (λ x. cond-le (p x) (f x)))

-- the sum of sums
pub sum_by-add : {X : Type 0} (f g : X → ℕ) (xs : List X) → sum_by (λ x. f x + g x) xs ≡ sum_by f xs + sum_by g xs
sum_by-add f g [] = refl
sum_by-add f g (x ∷ xs) = omega (arith, sum_by-cons (λ x. f x + g x) x xs, sum_by-cons f x xs, sum_by-cons g x xs, sum_by-add f g xs)

-- ---- sums over the numbers from one on

-- the numbers from a on meet one number at most once
none_above : (m v a k : ℕ) → m < a → sum_by (λ n. cond (m == n) v 0) (range_with_len a k) ≡ 0
none_above m v a zero below = refl
none_above m v a (suc k) below =
    grind (arith, nat_tests, sum_by-cons (λ n. cond (m == n) v 0) a (range_with_len (a + 1) k), none_above m v (a + 1) k (omega arith))

pub only_once : (m v a k : ℕ) → sum_by (λ n. cond (m == n) v 0) (range_with_len a k) ≤ v
only_once m v a zero = omega arith
only_once m v a (suc k) =
    grind (arith, nat_tests, sum_by-cons (λ n. cond (m == n) v 0) a (range_with_len (a + 1) k), only_once m v (a + 1) k, none_above m v (a + 1) k)
