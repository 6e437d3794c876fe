-- Two lists of the same things, each with none twice, come to the same counts.
use Rattle.std.proofs.Common.{◌≡◌, ◌≢◌, ◌∙◌, sym, ap, refl, ℕ, zero, suc, ◌≤◌, inl, inr, arith, Bool, true, cond, List, [], ◌∷◌, length, AllPairs, count_by}
use Rattle.std.specs.Prelude.{Contains, sum_by, remove}
use Rattle.std.proofs.lemmas.List.Elements.{Contains-append_cases, Contains-append_right}
use Rattle.std.proofs.lemmas.List.Sorted.{IsPermutation-remove, Contains-permutation, sum_by-IsPermutation}
use Rattle.std.proofs.lemmas.List.Sums.{sum_by-cons, length-filter}
use Rattle.list_laws.proofs.Filters.{filter_all}

module _ {X : Type 0} (key : X → ℕ) where
  abbrev Apart : List X → Type 0
  Apart xs = AllPairs (λ x other. key x ≢ key other) xs

  -- of the first of a list no other is
  first_apart : (x : X) (xs : List X) → Apart (x ∷ xs) → (y : X) → Contains xs y → y ≢ x
  first_apart x xs apart y (k, within, same) is =
      apart 0 (suc k) y (omega arith) (omega (arith, within)) (ap key (sym is ∙ sym same))

  rest_apart : (x : X) (xs : List X) → Apart (x ∷ xs) → Apart xs
  rest_apart x xs apart i j d before within = apart (suc i) (suc j) d (omega (arith, before)) (omega (arith, within))

  -- the only thing of a list of one
  only : (x y : X) → Contains (x ∷ []) y → y ≡ x
  only x y (zero, within, same) = sym same
  only x y (suc k, within, same) = absurd (omega (arith, within))

  no_more : (f : X → ℕ) (xs ys : List X) → Apart xs → ((x : X) → Contains xs x → Contains ys x) → sum_by f xs ≤ sum_by f ys
  no_more f [] ys apart each = omega arith
  no_more f (x ∷ xs) ys apart each =
      let at = each x (0, omega arith, refl) in
      let rest : List X = remove ys at.0 in
      let moved = IsPermutation-remove ys at.0 x at.1 (sym at.2) in
      omega (
        arith,
        sum_by-cons f x xs,
        sum_by-cons f x rest,
        sum_by-IsPermutation f ys (x ∷ rest) moved,
        no_more f xs rest (rest_apart x xs apart) (λ y held.
            elim (Contains-append_cases (x ∷ []) rest y (Contains-permutation ys (x ∷ rest) y moved (each y (Contains-append_right (x ∷ []) xs y held)))) [
              | inl first ↦ absurd (first_apart x xs apart y held (only x y first))
              | inr later ↦ later
            ]),
      )

  module _ (xs ys : List X) (apart : Apart xs) (too : Apart ys) (there : (x : X) → Contains xs x → Contains ys x) (back : (x : X) → Contains ys x → Contains xs x) where
    same_sum : (f : X → ℕ) → sum_by f xs ≡ sum_by f ys
    same_sum f = omega (arith, no_more f xs ys apart there, no_more f ys xs too back)

    pub same_count : (p : X → Bool) → count_by p xs ≡ count_by p ys
    same_count p = same_sum (λ x. cond (p x) 1 0)

    pub same_length : length xs ≡ length ys
    same_length =
        sym (ap length (filter_all (λ x. true) xs (λ k d within. refl))) ∙ length-filter (λ x. true) xs ∙ same_count (λ x. true)
        ∙ sym (length-filter (λ x. true) ys) ∙ ap length (filter_all (λ x. true) ys (λ k d within. refl))
