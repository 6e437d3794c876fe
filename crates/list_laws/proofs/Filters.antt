-- What a filter keeps.
use Rattle.std.proofs.Common.{◌≡◌, ◌≤◌, Bool, true, false, List, [], ◌∷◌, length, refl, ap, arith}
use Rattle.std.specs.Prelude.{◌&&◌, filter, All, Contains, if◌then◌else◌}
use Rattle.std.proofs.lemmas.List.Elements.{All-nil, All-cons, All-head, All-tail, All-filter, All-contains, All-contains_itself, filter_passes}
use Rattle.std.proofs.lemmas.{List.Sums.length-filter, List.Sums.count_by-le-length, Grind.common_steps}
use Rattle.list_laws.proofs.Elements.{All-both}

-- nothing is kept where nothing passes
pub filter_none : {X : Type 0} (p : X → Bool) (xs : List X) → All (λ x. p x ≡ false) xs → filter p xs ≡ []
filter_none p [] none = refl
filter_none p (x ∷ xs) none = rw (All-head (λ x. p x ≡ false) x xs none) (filter_none p xs (All-tail (λ x. p x ≡ false) x xs none))

-- and everything where everything does
pub filter_all : {X : Type 0} (p : X → Bool) (xs : List X) → All (λ x. p x ≡ true) xs → filter p xs ≡ xs
filter_all p [] all = refl
filter_all p (x ∷ xs) all =
    rw (All-head (λ x. p x ≡ true) x xs all) (ap (λ rest. x ∷ rest) (filter_all p xs (All-tail (λ x. p x ≡ true) x xs all)))

-- tests that agree on the elements keep the same
pub filter_alike : {X : Type 0} (p q : X → Bool) (xs : List X) → All (λ x. p x ≡ q x) xs → filter p xs ≡ filter q xs
filter_alike p q [] alike = refl
filter_alike p q (x ∷ xs) alike =
    rw (All-head (λ x. p x ≡ q x) x xs alike)
    (ap (λ rest. if q x then x ∷ rest else rest) (filter_alike p q xs (All-tail (λ x. p x ≡ q x) x xs alike)))

-- what passes one test and then another passes both
pub filter-filter : {X : Type 0} (p q : X → Bool) (xs : List X) → filter p (filter q xs) ≡ filter (λ x. q x && p x) xs
filter-filter p q [] = refl
filter-filter p q (x ∷ xs) = grind (arith, common_steps, filter-filter p q xs)

pub filter_few : {X : Type 0} (p : X → Bool) (xs : List X) → length (filter p xs) ≤ length xs
filter_few p xs = omega (arith, length-filter p xs, count_by-le-length p xs)

-- what holds of all that a filter keeps holds of each that passes
pub All-passing : {X : Type 0} (p : X → Bool) (P : X → Type 0) (xs : List X) → All P (filter p xs) → All (λ x. p x ≡ true → P x) xs
All-passing p P [] kept = All-nil (λ x. p x ≡ true → P x)
All-passing p P (x ∷ xs) kept = by_test (p x) refl kept (All-passing p P xs)
  where
    by_test : (b : Bool) → p x ≡ b → All P (if b then x ∷ filter p xs else filter p xs) →
        (All P (filter p xs) → All (λ x. p x ≡ true → P x) xs) → All (λ x. p x ≡ true → P x) (x ∷ xs)
    by_test true is kept rest =
        All-cons (λ x. p x ≡ true → P x) x xs (λ _. All-head P x (filter p xs) kept) (rest (All-tail P x (filter p xs) kept))
    by_test false is kept rest = All-cons (λ x. p x ≡ true → P x) x xs (λ passed. absurd (cc)) (rest kept)

-- an element that passes is kept
pub Contains-filter : {X : Type 0} (p : X → Bool) (xs : List X) (x : X) → Contains xs x → p x ≡ true → Contains (filter p xs) x
Contains-filter p xs x held =
    All-contains (λ y. p y ≡ true → Contains (filter p xs) y) xs x (All-passing p (Contains (filter p xs)) xs (All-contains_itself (filter p xs))) held

-- and what is kept is one that passes
pub filter-contains : {X : Type 0} (p : X → Bool) (xs : List X) (x : X) → Contains (filter p xs) x → Contains xs x × (p x ≡ true)
filter-contains p xs x kept =
    All-contains (λ y. Contains xs y × (p y ≡ true)) (filter p xs) x
    (All-both (Contains xs) (λ y. p y ≡ true) (filter p xs) (All-filter p (Contains xs) xs (All-contains_itself xs)) (filter_passes p xs)) kept
