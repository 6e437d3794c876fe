-- Numbers are counted the same by their order and by their equality.
use Rattle.std.proofs.Common.{◌≡◌, ℕ, List, nat_eq, rules}
use Rattle.std.specs.{Set.distinct_count, Ordering.nat_cmp, Ordering.eq_by_cmp}

same_test : (a b : ℕ) → eq_by_cmp nat_cmp a b ≡ nat_eq a b
same_test a b = search rules

pub same_count : (xs : List ℕ) → distinct_count (eq_by_cmp nat_cmp) xs ≡ distinct_count nat_eq xs
same_count xs = λ i. distinct_count (λ a b. same_test a b i) xs
