-- What is given of the elements of a list, without those of which nothing is.
use Rattle.std.proofs.Common.{◌≡◌, ◌∙◌, ap, ap₂, refl, zero, suc, arith, List, [], ◌∷◌, ◌++◌, Option, Some, None, filter_map, option_to_list, All, AllPairs}
use Rattle.std.specs.List.{cons_option}
use Rattle.std.proofs.lemmas.List.Elements.{All-head, All-tail, All-nil, All-cons, filter_map-append}
use Rattle.std.proofs.lemmas.{List.Kept.AllPairs-cons, Grind.common_steps}

pub filter_map_one : {X Y : Type 0} (h : X → Option Y) (x : X) → filter_map h (x ∷ []) ≡ option_to_list (h x)
filter_map_one h x = grind (arith, common_steps)

pub filter_map_more : {X Y : Type 0} (h : X → Option Y) (xs : List X) (x : X) → filter_map h (xs ++ x ∷ []) ≡ filter_map h xs ++ option_to_list (h x)
filter_map_more h xs x = filter_map-append h xs (x ∷ []) ∙ ap (λ (ys : List _). filter_map h xs ++ ys) (filter_map_one h x)

pub filter_map-agree : {X Y : Type 0} (h other : X → Option Y) (xs : List X) → All (λ x. h x ≡ other x) xs → filter_map h xs ≡ filter_map other xs
filter_map-agree h other [] alike = refl
filter_map-agree h other (x ∷ xs) alike =
    ap₂ cons_option (All-head (λ x. h x ≡ other x) x xs alike)
    (filter_map-agree h other xs (All-tail (λ x. h x ≡ other x) x xs alike))

pub filter_map_none : {X Y : Type 0} (h : X → Option Y) (xs : List X) → All (λ x. h x ≡ None) xs → filter_map h xs ≡ []
filter_map_none h [] none = refl
filter_map_none h (x ∷ xs) none =
    ap₂ cons_option (All-head (λ x. h x ≡ None) x xs none) (filter_map_none h xs (All-tail (λ x. h x ≡ None) x xs none))

pub All-filter_map : {X Y : Type 0} (P : X → Type 0) (Q : Y → Type 0) (h : X → Option Y) → ((x : X) (y : Y) → h x ≡ Some y → P x → Q y) →
    (xs : List X) → All P xs → All Q (filter_map h xs)
All-filter_map P Q h along [] all = All-nil Q
All-filter_map {X} {Y} P Q h along (x ∷ xs) all = by_answer (h x) refl (All-filter_map P Q h along xs (All-tail P x xs all))
  where
    by_answer : (answer : Option Y) → h x ≡ answer → All Q (filter_map h xs) → All Q (cons_option answer (filter_map h xs))
    by_answer None is rest = rest
    by_answer (Some y) is rest = All-cons Q y (filter_map h xs) (along x y is (All-head P x xs all)) rest

pub AllPairs-filter_map : {X Y : Type 0} (R : X → X → Type 0) (S : Y → Y → Type 0) (h : X → Option Y) →
    ((x next : X) (y later : Y) → h x ≡ Some y → h next ≡ Some later → R x next → S y later) →
    (xs : List X) → AllPairs R xs → AllPairs S (filter_map h xs)
AllPairs-filter_map R S h along [] pairs = λ i j d before within. absurd (omega arith)
AllPairs-filter_map {X} {Y} R S h along (x ∷ xs) pairs =
    by_answer (h x) refl (AllPairs-filter_map R S h along xs (λ i j d before within. pairs (suc i) (suc j) d (omega arith) (omega arith)))
  where
    by_answer : (answer : Option Y) → h x ≡ answer → AllPairs S (filter_map h xs) → AllPairs S (cons_option answer (filter_map h xs))
    by_answer None is rest = rest
    by_answer (Some y) is rest =
        AllPairs-cons S y (filter_map h xs)
        (All-filter_map (R x) (S y) h (λ next later comes by. along x next y later is comes by) xs
        (λ k d within. pairs zero (suc k) d (omega arith) (omega arith)))
        rest
