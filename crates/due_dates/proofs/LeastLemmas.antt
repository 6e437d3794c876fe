-- The least number that passes is what a search through the span finds, and is the only one of which that is true.
use Rattle.due_dates.proofs.Words.{◌≡◌, sym, ℕ, ◌+◌, ◌-◌, ◌<◌, ◌≤◌, inl, inr, Bool, false, Option, Some, None, arith, cases_lt, first_day, IsFirst, first-is, least_that, IsLeast, same_first}

module _ (passes : ℕ → Bool) (first last : ℕ) where
  -- so many numbers from the first on are those up to the last
  from_search : (answer : Option ℕ) → IsFirst passes first (last + 1 - first) answer → IsLeast passes first last answer
  from_search answer is = grind arith

  -- the answer of the definition is the least one
  pub least_that-says : IsLeast passes first last (least_that passes first last)
  unfolding least_that
  least_that-says = from_search (first_day passes first (last + 1 - first)) (first-is passes first (last + 1 - first))

  to_search : (answer : Option ℕ) → IsLeast passes first last answer → IsFirst passes first (last + 1 - first) answer
  to_search answer is = grind arith

  -- so an answer that is the least one is that of the definition
  pub least_that-is : (answer : Option ℕ) → IsLeast passes first last answer → least_that passes first last ≡ answer
  unfolding least_that
  least_that-is answer is = same_first passes first (last + 1 - first) _ answer (first-is passes first (last + 1 - first)) (to_search answer is)

-- where none passes before a number of the span, the search may begin with that one
pub least_that-from : (passes : ℕ → Bool) (first next last : ℕ) → first ≤ next → ((n : ℕ) → first ≤ n → n < next → passes n ≡ false) →
    least_that passes next last ≡ least_that passes first last
least_that-from passes first next last begins none =
    sym (least_that-is passes first last (least_that passes next last) (with_those (least_that passes next last) (least_that-says passes next last)))
  where
    fails : (most : ℕ) → ((n : ℕ) → next ≤ n → n ≤ most → passes n ≡ false) → (n : ℕ) → first ≤ n → n ≤ most → passes n ≡ false
    fails most then n from to = elim (cases_lt n next) [
      | inl before ↦ none n from before
      | inr behind ↦ then n behind to
    ]

    with_those : (answer : Option ℕ) → IsLeast passes next last answer → IsLeast passes first last answer
    with_those None is = fails last is
    with_those (Some least) is = record {
      from_first = omega (arith, begins, is.from_first);
      to_last = is.to_last;
      this = is.this;
      none_earlier = λ n from before. fails (least - 1) (λ m behind to. is.none_earlier m behind (omega (arith, to, before))) n from (omega (arith, before));
    }
