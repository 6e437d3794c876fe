-- Rows that are compared one by one with those of an act.
use Rattle.book_replay.proofs.Words.{◌≡◌, ◌∙◌, refl, ℕ, zero, suc, ◌+◌, ◌<◌, ◌==◌, Bool, true, false, List, [], ◌∷◌, Option, Some, None, length, drop, filter, get_or, slice_get, option_map_or, pointwise, eq-eqb, ne_eqb, drop_more, slice_get_within, get_or_from_slice_get, arith, ◌≤◌}

pub past : {X : Type 0} (xs : List X) (place : ℕ) → slice_get xs place ≡ None → drop place xs ≡ []
past [] zero none = refl
past [] (suc place) none = refl
past (x ∷ xs) zero none = absurd (cc)
past (x ∷ xs) (suc place) none = past xs place none

-- what is left from an element on begins with it
pub drop_at : {X : Type 0} (xs : List X) (i : ℕ) (x : X) → slice_get xs i ≡ Some x → drop i xs ≡ x ∷ drop (i + 1) xs
drop_at xs i x is = rw (drop_more xs i x (slice_get_within xs i x is), get_or_from_slice_get xs i x x is) refl

module _ {X : Type 0} (n : X → ℕ) (same : X → X → Bool) (own xs : List X) (a : ℕ) where
  abbrev by_act : List X → List X
  by_act ys = filter (λ x. n x == a) ys

  abbrev same_at : ℕ → X → Bool
  same_at seen x = option_map_or (λ first. same first x) (slice_get own seen) false

  -- what is left to compare
  abbrev left : ℕ → ℕ → Bool
  left seen i = pointwise same (drop seen own) (by_act (drop i xs))

  head : (i : ℕ) (x : X) → i < length xs → x ≡ get_or xs i x → drop i xs ≡ x ∷ drop (i + 1) xs
  head i x within is = drop_more xs i x within ∙ rw (← is) refl

  -- a row of another act
  of_other : (seen i : ℕ) (x : X) → i < length xs → x ≡ get_or xs i x → (n x ≡ a → ⊥) → left seen (i + 1) ≡ left seen i
  of_other seen i x within is other = rw (head i x within is, ne_eqb (n x) a other) refl

  -- a row of the act
  of_act : (seen i : ℕ) (x : X) → i < length xs → x ≡ get_or xs i x → n x ≡ a → left seen i ≡ pointwise same (drop seen own) (x ∷ by_act (drop (i + 1) xs))
  of_act seen i x within is own_act = rw (head i x within is, eq-eqb (n x) a own_act) refl

  -- that is the same
  one_more : (seen i : ℕ) (x : X) → i < length xs → x ≡ get_or xs i x → n x ≡ a → same_at seen x ≡ true →
      (seen < length own) × (left (seen + 1) (i + 1) ≡ left seen i)
  one_more seen i x within is own_act passes = by_place (slice_get own seen) refl passes
    where
      by_place : (found : Option X) → slice_get own seen ≡ found → option_map_or (λ first. same first x) found false ≡ true →
          (seen < length own) × (left (seen + 1) (i + 1) ≡ left seen i)
      by_place None there passes = absurd (cc)
      by_place (Some first) there passes =
          (slice_get_within own seen first there, rw (of_act seen i x within is own_act, drop_at own seen first there, passes) refl)

  -- that differs
  pub none_more : (seen i : ℕ) (x : X) → i < length xs → x ≡ get_or xs i x → n x ≡ a → same_at seen x ≡ false → left seen i ≡ false
  none_more seen i x within is own_act fails = of_act seen i x within is own_act ∙ by_place (slice_get own seen) refl fails
    where
      by_place : (found : Option X) → slice_get own seen ≡ found → option_map_or (λ first. same first x) found false ≡ false →
          pointwise same (drop seen own) (x ∷ by_act (drop (i + 1) xs)) ≡ false
      by_place None there fails = rw (past own seen there) refl
      by_place (Some first) there fails = rw (drop_at own seen first there, fails) refl

  -- so the count of those seen goes on, and what is left to compare says what it said
  pub counted : (seen next i : ℕ) (x : X) (whole : Bool) → i < length xs → x ≡ get_or xs i x → n x ≡ a → same_at seen x ≡ true → next ≡ seen + 1 →
      left seen i ≡ whole → (next ≤ length own) × (left next (i + 1) ≡ whole)
  counted seen next i x whole within is own_act passes goes_on so_far =
      let more = one_more seen i x within is own_act passes in
      (omega (arith, more.0, goes_on), rw goes_on (more.1 ∙ so_far))

  pub passed_over : (seen next i : ℕ) (x : X) (whole : Bool) → i < length xs → x ≡ get_or xs i x → (n x ≡ a → ⊥) → next ≡ seen → seen ≤ length own →
      left seen i ≡ whole → (next ≤ length own) × (left next (i + 1) ≡ whole)
  passed_over seen next i x whole within is other stays fits so_far =
      (omega (arith, stays, fits), rw stays (of_other seen i x within is other ∙ so_far))
