-- The numbers from one on, and one more.
use Rattle.std.proofs.Common.{◌≡◌, ◌∙◌, ap, ℕ, zero, suc, ◌+◌, List, [], ◌∷◌, ◌++◌, append-nil, refl, add-one, arith}
use Rattle.std.specs.{Prelude.sum_by, List.flat_map, List.range_with_len}
use Rattle.std.proofs.lemmas.List.Sums.{sum_by_push}
use Rattle.list_laws.proofs.Elements.{flat_map-append}

pub range_more : (a n j : ℕ) → a + n ≡ j → range_with_len a (suc n) ≡ range_with_len a n ++ j ∷ []
range_more a zero j is = ap (λ k. k ∷ []) (omega (arith, is))
range_more a (suc n) j is = ap (λ ks. a ∷ ks) (range_more (a + 1) n j (omega (arith, is)))

-- the same where the last is the sum
pub range-more : (a n : ℕ) → range_with_len a (suc n) ≡ range_with_len a n ++ (a + n) ∷ []
range-more a n = range_more a n (a + n) refl

pub sum_by-range_more : (f : ℕ → ℕ) (a n j : ℕ) → a + n ≡ j → sum_by f (range_with_len a (n + 1)) ≡ sum_by f (range_with_len a n) + f j
sum_by-range_more f a n j is = rw (add-one, range_more a n j is) (sum_by_push f (range_with_len a n) j)

pub flat_map-range_more : {X : Type 0} (f : ℕ → List X) (a n j : ℕ) → a + n ≡ j →
    flat_map f (range_with_len a (suc n)) ≡ flat_map f (range_with_len a n) ++ f j
flat_map-range_more f a n j is =
    ap (flat_map f) (range_more a n j is)
    ∙ flat_map-append f (range_with_len a n) (j ∷ [])
    ∙ ap (λ last. flat_map f (range_with_len a n) ++ last) (append-nil (f j))
