-- A sum by members is one over the whole list, where each income names a member.
use Rattle.income_rules.proofs.Words.{◌≡◌, ℕ, ◌+◌, ◌≤◌, ◌<◌, zero, suc, Bool, cond, List, [], ◌∷◌, refl, arith, nat_tests, ◌==◌, ◌&&◌, filter, sum_by, range_with_len, sum_by-cons, sum_by-le, common_steps, Income, IncomeKind, sum_of}
use Rattle.std.proofs.Common.{◌∙◌, All}
use Rattle.std.proofs.lemmas.List.Elements.{All-head, All-tail}
use Rattle.income_rules.proofs.Sums.{cond-le, sum_by-add}

-- functions with the same values have the same sum
pub sum_by-agree : {X : Type 0} (f g : X → ℕ) → ((x : X) → f x ≡ g x) → (xs : List X) → sum_by f xs ≡ sum_by g xs
sum_by-agree f g same xs = λ i. sum_by (λ x. same x i) xs

-- of the numbers from a on none is a lesser one
none_is : (v : ℕ → ℕ) (m a k : ℕ) → m < a → sum_by (λ n. cond (m == n) (v n) 0) (range_with_len a k) ≡ 0
none_is v m a zero below = refl
none_is v m a (suc k) below =
    grind (arith, nat_tests, sum_by-cons (λ n. cond (m == n) (v n) 0) a (range_with_len (a + 1) k), none_is v m (a + 1) k (omega arith))

-- and one among them is so once
one_is : (v : ℕ → ℕ) (m a k : ℕ) → a ≤ m → m < a + k → sum_by (λ n. cond (m == n) (v n) 0) (range_with_len a k) ≡ v m
one_is v m a zero from to = absurd (omega (arith, from, to))
one_is v m a (suc k) from to =
    let above : a < m → sum_by (λ n. cond (m == n) (v n) 0) (range_with_len (a + 1) k) ≡ v m = λ more. one_is v m (a + 1) k (omega arith) (omega arith) in
    let at : m ≡ a → sum_by (λ n. cond (m == n) (v n) 0) (range_with_len (a + 1) k) ≡ 0 = λ same. none_is v m (a + 1) k (omega arith) in
    grind (arith, nat_tests, sum_by-cons (λ n. cond (m == n) (v n) 0) a (range_with_len (a + 1) k), above, at)

module _ (counts : ℕ → Bool) (is_such : IncomeKind → Bool) (k : ℕ) where
  -- what the member of the number adds
  abbrev share : List Income → ℕ → ℕ
  share incomes number = cond (counts number) (sum_of is_such incomes number) 0

  -- what one income adds to the member of the number
  abbrev first_share : Income → ℕ → ℕ
  first_share income number = cond (income.member == number) (cond (counts number && is_such income.kind) income.annual 0) 0

  share-cons : (income : Income) (incomes : List Income) (number : ℕ) → share (income ∷ incomes) number ≡ first_share income number + share incomes number
  share-cons income incomes number = grind (arith, common_steps)

  pub shares-are : (incomes : List Income) → All (λ income. income.member < k) incomes →
      sum_by (share incomes) (range_with_len 0 k) ≡ sum_by (λ income. income.annual) (filter (λ income. is_such income.kind && counts income.member) incomes)
  shares-are [] named = omega (arith, sum_by-le (share []) 0 (range_with_len 0 k) (λ i d within. cond-le (counts _) 0))
  shares-are (income ∷ incomes) named =
      let rest = shares-are incomes (All-tail (λ (i : Income). i.member < k) income incomes named) in
      sum_by-agree (share (income ∷ incomes)) (λ number. first_share income number + share incomes number) (share-cons income incomes) (range_with_len 0 k)
      ∙ sum_by-add (first_share income) (share incomes) (range_with_len 0 k)
      ∙ by_first (one_is (λ number. cond (counts number && is_such income.kind) income.annual 0) income.member 0 k (omega arith)
      (omega (arith, All-head (λ (i : Income). i.member < k) income incomes named))) rest
    where
      by_first : sum_by (first_share income) (range_with_len 0 k) ≡ cond (counts income.member && is_such income.kind) income.annual 0 →
          sum_by (share incomes) (range_with_len 0 k) ≡ sum_by (λ i. i.annual) (filter (λ i. is_such i.kind && counts i.member) incomes) →
          sum_by (first_share income) (range_with_len 0 k) + sum_by (share incomes) (range_with_len 0 k)
          ≡ sum_by (λ i. i.annual) (filter (λ i. is_such i.kind && counts i.member) (income ∷ incomes))
      by_first first rest = grind (arith, common_steps)
