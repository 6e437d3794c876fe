-- The first element that passes a test.
use Rattle.std.specs.Prelude.{IfSome}
use Rattle.std.proofs.Common.{◌≡◌, ◌∙◌, sym, ap, subst, ℕ, suc, ◌<◌, ◌≤◌, ◌&&◌, Bool, true, false, List, [], ◌∷◌, Option, Some, None, length, get_or, refl, arith, find, slice_get, All, AllPairs, if◌then◌else◌, option_and_then}
use Rattle.std.proofs.lemmas.{Bool.and_left, Bool.false_from_ne_true, Bool.false≢true, List.Folds.find_at, List.Sums.position_or_len_is, Option.slice_get-get_or, Grind.common_steps}
use Rattle.std.proofs.lemmas.List.Elements.{All-nil, All-cons, All-head, All-tail}

-- where no element passes, none is found
pub find_fails : {X : Type 0} (p : X → Bool) (xs : List X) → All (λ x. p x ≡ false) xs → find p xs ≡ None
find_fails p [] none = refl
find_fails p (x ∷ xs) none = rw (All-head (λ x. p x ≡ false) x xs none) (find_fails p xs (All-tail (λ x. p x ≡ false) x xs none))

-- where none is found, no element passes
pub find_none : {X : Type 0} (p : X → Bool) (xs : List X) → find p xs ≡ None → All (λ x. p x ≡ false) xs
find_none p [] none = All-nil (λ x. p x ≡ false)
find_none p (x ∷ xs) none = by_test (p x) refl none (find_none p xs)
  where
    by_test : (b : Bool) → p x ≡ b → (if b then Some x else find p xs) ≡ None → (find p xs ≡ None → All (λ x. p x ≡ false) xs) →
        All (λ x. p x ≡ false) (x ∷ xs)
    by_test true is none rest = absurd (cc)
    by_test false is none rest = All-cons (λ x. p x ≡ false) x xs is (rest none)

-- what holds of all holds of what is found, which passes
pub find_holds : {X : Type 0} (p : X → Bool) (P : X → Type 0) (xs : List X) (x : X) → find p xs ≡ Some x → All P xs → P x × (p x ≡ true)
find_holds p P [] x is all = absurd (cc)
find_holds {X} p P (y ∷ ys) x is all = by_test (p y) refl is (find_holds p P ys x)
  where
    by_test : (b : Bool) → p y ≡ b → (if b then Some y else find p ys) ≡ Some x → (find p ys ≡ Some x → All P ys → P x × (p x ≡ true)) → P x × (p x ≡ true)
    by_test true passed is rest =
        let same : y ≡ x = cc in
        subst (λ (z : X). P z × (p z ≡ true)) same (All-head P y ys all, passed)
    by_test false failed is rest = rest is (All-tail P y ys all)

-- the same where it is looked at only if there is one
pub found_holds : {X : Type 0} (p : X → Bool) (P : X → Type 0) (xs : List X) (found : Option X) → found ≡ find p xs → All P xs → IfSome found P
found_holds p P xs None is all = tt
found_holds p P xs (Some x) is all = (find_holds p P xs x (sym is) all).0

pub find_passes : {X : Type 0} (p : X → Bool) (xs : List X) (x : X) → find p xs ≡ Some x → p x ≡ true
find_passes p xs x is = (find_holds p (λ y. Unit {0}) xs x is (λ k d within. tt)).1

-- the first of those that pass, where none before it does
pub find_first : {X : Type 0} (p : X → Bool) (xs : List X) (k : ℕ) (d : X) → k < length xs → p (get_or xs k d) ≡ true →
    ((i : ℕ) → i < k → p (get_or xs i d) ≡ false) → find p xs ≡ Some (get_or xs k d)
find_first p xs k d within passes before =
    find_at p xs
    ∙ ap (slice_get xs) (position_or_len_is p xs k d (let le : k ≤ length xs = omega arith in le) before (λ _. passes))
    ∙ slice_get-get_or xs k d within

-- where at most one passes the first test, the first that passes both is that one or none
pub find_both : {X : Type 0} (p q : X → Bool) (xs : List X) → AllPairs (λ x y. p x ≡ true → p y ≡ false) xs →
    find (λ x. p x && q x) xs ≡ option_and_then (λ x. if q x then Some x else None) (find p xs)
find_both p q [] once = refl
find_both p q (x ∷ xs) once =
    grind (arith, common_steps, none_after, find_both p q xs (λ i j d before within. once (suc i) (suc j) d (omega arith) (omega arith)))
  where
    none_after : p x ≡ true → find (λ x. p x && q x) xs ≡ None
    none_after passes =
        find_fails (λ x. p x && q x) xs
        (λ k d within. and_left (p (get_or xs k d)) (q (get_or xs k d)) (once 0 (suc k) d (omega arith) (omega arith) passes))

-- ---- a narrower test and a wider one

module _ {X : Type 0} (narrow wide : X → Bool) (narrower : (x : X) → narrow x ≡ true → wide x ≡ true) where
  fails : (x : X) → wide x ≡ false → narrow x ≡ false
  fails x failed = false_from_ne_true (narrow x) (λ passed. false≢true (sym failed ∙ narrower x passed))

  -- where none passes the wider, none passes the narrower
  pub find_none-narrower : (xs : List X) → find wide xs ≡ None → find narrow xs ≡ None
  find_none-narrower xs none = find_fails narrow xs (λ k d within. fails _ (find_none wide xs none k d within))

  -- where the first that passes the wider passes the narrower, it is the first of that too
  pub find_first-narrower : (xs : List X) (x : X) → find wide xs ≡ Some x → narrow x ≡ true → find narrow xs ≡ Some x
  find_first-narrower [] x is passed = absurd (cc)
  find_first-narrower (first ∷ xs) x is passed =
      let rest : find wide xs ≡ Some x → find narrow xs ≡ Some x = λ later. find_first-narrower xs x later passed in
      grind (arith, common_steps, is, passed, fails first, rest)
