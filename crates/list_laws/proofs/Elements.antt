-- What holds of the elements of a list, and where they stand.
use Rattle.std.proofs.Common.{◌≡◌, ◌∙◌, sym, ap, refl, subst, subst₂, ℕ, zero, suc, ◌<◌, ◌≤◌, ◌-◌, ◌⊎◌, inl, inr, arith, List, [], ◌∷◌, ◌++◌, Some, length, length-append, append_assoc, map, slice_get, All, AllPairs, Contains, get_or, get_or-append-add, ◌+◌, insert}
use Rattle.std.specs.List.{flat_map}
use Rattle.std.proofs.{lemmas.Bool.cases_lt, Math.ListN.get_or-map, Math.ListN.length-map}
use Rattle.std.proofs.lemmas.List.{Elements.All-map, Kept.AllPairs-cons, get_or_append_left, get_or-append_right, get_or_past, get_or_push, Edits.length-insert, Edits.get_or-insert_below, Edits.get_or-insert_at, Edits.get_or-insert_above}

-- the element at a place is among all, or the one given for none
pub All-place : {X : Type 0} (P : X → Type 0) (xs : List X) (place : ℕ) (d : X) → All P xs → P d → P (get_or xs place d)
All-place P xs place d all none = by_place (cases_lt place (length xs))
  where
    by_place : (place < length xs) ⊎ (length xs ≤ place) → P (get_or xs place d)
    by_place (inl within) = all place d within
    by_place (inr past) = subst P (sym (get_or_past xs place d past)) none

-- what holds at each place, and of one more at the last
pub places_push : {X : Type 0} (P : ℕ → X → Type 0) (xs : List X) (x : X) → ((place : ℕ) (d : X) → place < length xs → P place (get_or xs place d)) →
    P (length xs) x → (place : ℕ) (d : X) → place < length (xs ++ x ∷ []) → P place (get_or (xs ++ x ∷ []) place d)
places_push P xs x before last place d within = by_place (cases_lt place (length xs))
  where
    by_place : (place < length xs) ⊎ (length xs ≤ place) → P place (get_or (xs ++ x ∷ []) place d)
    by_place (inl earlier) = subst (P place) (sym (get_or_append_left xs (x ∷ []) d place earlier)) (before place d earlier)
    by_place (inr past) =
        let at : length xs ≡ place = omega (arith, within, length-append xs (x ∷ []), past) in
        subst (P place) (sym (get_or_push xs x d place at)) (subst (λ (k : ℕ). P k x) at last)

-- what holds of each of the elements, twice
pub All-both : {X : Type 0} (P Q : X → Type 0) (xs : List X) → All P xs → All Q xs → All (λ x. P x × Q x) xs
All-both P Q xs of_p of_q = λ k x within. (of_p k x within, of_q k x within)

-- what holds of each image holds of what it is the image of
pub All-unmap : {X Y : Type 0} (P : Y → Type 0) (f : X → Y) (xs : List X) → All P (map f xs) → All (λ x. P (f x)) xs
All-unmap P f xs all k d within = subst P (get_or-map f xs k d) (all k (f d) (rw length-map within))

-- what holds of all of two lists, one after the other, holds of all of each
pub All-left : {X : Type 0} (P : X → Type 0) (xs ys : List X) → All P (xs ++ ys) → All P xs
All-left P xs ys all k d within =
    subst P (get_or_append_left xs ys d k within) (all k d (omega (arith, within, length-append xs ys)))

pub All-right : {X : Type 0} (P : X → Type 0) (xs ys : List X) → All P (xs ++ ys) → All P ys
All-right P xs ys all k d within =
    subst P (get_or-append-add xs ys k d) (all (length xs + k) d (omega (arith, within, length-append xs ys)))

pub Contains-map : {X Y : Type 0} (f : X → Y) (xs : List X) (x : X) → Contains xs x → Contains (map f xs) (f x)
Contains-map f xs x (k, within, is) = (k, rw length-map within, get_or-map f xs k x ∙ ap f is)

pub map-agree : {X Y : Type 0} (f g : X → Y) → ((x : X) → f x ≡ g x) → (xs : List X) → map f xs ≡ map g xs
map-agree f g same xs = λ i. map (λ x. same x i) xs

pub flat_map-append : {X Y : Type 0} (f : X → List Y) (xs ys : List X) → flat_map f (xs ++ ys) ≡ flat_map f xs ++ flat_map f ys
flat_map-append f [] ys = refl
flat_map-append f (x ∷ xs) ys =
    ap (λ rest. f x ++ rest) (flat_map-append f xs ys) ∙ sym (append_assoc (f x) (flat_map f xs) (flat_map f ys))

pub slice_get-append : {X : Type 0} (xs ys : List X) (place : ℕ) → place < length xs → slice_get (xs ++ ys) place ≡ slice_get xs place
slice_get-append [] ys place within = absurd (omega arith)
slice_get-append (x ∷ xs) ys zero within = refl
slice_get-append (x ∷ xs) ys (suc place) within = slice_get-append xs ys place (omega arith)

-- one more stands at the last place
pub slice_get-last : {X : Type 0} (xs : List X) (x : X) → slice_get (xs ++ x ∷ []) (length xs) ≡ Some x
slice_get-last [] x = refl
slice_get-last (first ∷ xs) x = slice_get-last xs x

pub AllPairs-append : {X : Type 0} (R : X → X → Type 0) (xs ys : List X) → AllPairs R xs → AllPairs R ys →
    ((k l : ℕ) (d : X) → k < length xs → l < length ys → R (get_or xs k d) (get_or ys l d)) → AllPairs R (xs ++ ys)
AllPairs-append {X} R xs ys lefts rights across = λ i j d before within. by_places i j d before within (cases_lt j (length xs)) (cases_lt i (length xs))
  where
    at_left : (i : ℕ) (d : X) → i < length xs → get_or (xs ++ ys) i d ≡ get_or xs i d
    at_left i d within = get_or_append_left xs ys d i within

    at_right : (i : ℕ) (d : X) → length xs ≤ i → get_or (xs ++ ys) i d ≡ get_or ys (i - length xs) d
    at_right i d past = get_or-append_right xs ys (length xs) i d refl past

    by_places : (i j : ℕ) (d : X) → i < j → j < length (xs ++ ys) → (j < length xs) ⊎ (length xs ≤ j) → (i < length xs) ⊎ (length xs ≤ i) →
        R (get_or (xs ++ ys) i d) (get_or (xs ++ ys) j d)
    by_places i j d before within (inl left) first =
        let earlier : i < length xs = omega arith in
        subst₂ R (sym (at_left i d earlier)) (sym (at_left j d left)) (lefts i j d before left)
    by_places i j d before within (inr right) (inl left) =
        subst₂ R (sym (at_left i d left)) (sym (at_right j d right))
        (across i (j - length xs) d left (omega (arith, within, right, length-append xs ys)))
    by_places i j d before within (inr right) (inr past) =
        subst₂ R (sym (at_right i d past)) (sym (at_right j d right))
        (rights (i - length xs) (j - length xs) d (omega (arith, before, past)) (omega (arith, within, right, length-append xs ys)))

pub AllPairs-map : {X Y : Type 0} (R : Y → Y → Type 0) (f : X → Y) (xs : List X) → AllPairs (λ x later. R (f x) (f later)) xs → AllPairs R (map f xs)
AllPairs-map R f [] pairs = λ i j d before within. absurd (omega arith)
AllPairs-map R f (x ∷ xs) pairs =
    AllPairs-cons R (f x) (map f xs)
    (All-map (R (f x)) f xs (λ k d within. pairs zero (suc k) d (omega arith) (omega arith)))
    (AllPairs-map R f xs (λ i j d before within. pairs (suc i) (suc j) d (omega arith) (omega arith)))

-- one that goes between those before it and those behind it leaves all pairs in order
pub AllPairs-insert : {X : Type 0} (R : X → X → Type 0) (xs : List X) (i : ℕ) (y : X) → i ≤ length xs → AllPairs R xs →
    ((k : ℕ) (d : X) → k < i → R (get_or xs k d) y) → ((k : ℕ) (d : X) → i ≤ k → k < length xs → R y (get_or xs k d)) → AllPairs R (insert xs i y)
AllPairs-insert R xs i y le pairs low high a b d before within = by_first (cases_lt a i) (cases_lt i a) (cases_lt b i) (cases_lt i b)
  where
    long : length (insert xs i y) ≡ length xs + 1
    long = length-insert xs i y le

    below : (k : ℕ) → k < i → get_or (insert xs i y) k d ≡ get_or xs k d
    below k lower = get_or-insert_below xs i y d k lower le

    at : (k : ℕ) → k ≡ i → get_or (insert xs i y) k d ≡ y
    at k is = rw is (get_or-insert_at xs i y d le)

    above : (k : ℕ) → i < k → get_or (insert xs i y) k d ≡ get_or xs (k - 1) d
    above k higher =
        subst (λ q. get_or (insert xs i y) q d ≡ get_or xs (k - 1) d) {x = k - 1 + 1} (omega (arith, higher)) (get_or-insert_above xs i y d (k - 1) (omega (arith, higher)) le)

    by_first : (a < i) ⊎ (i ≤ a) → (i < a) ⊎ (a ≤ i) → (b < i) ⊎ (i ≤ b) → (i < b) ⊎ (b ≤ i) → R (get_or (insert xs i y) a d) (get_or (insert xs i y) b d)
    by_first (inl a_low) _ (inl b_low) _ = rw (below a a_low, below b b_low) (pairs a b d before (omega arith))
    by_first (inl a_low) _ (inr _) (inl b_high) = rw (below a a_low, above b b_high) (pairs a (b - 1) d (omega arith) (omega (arith, within, long, b_high)))
    by_first (inl a_low) _ (inr b_from) (inr b_to) = rw (below a a_low, at b (omega arith)) (low a d a_low)
    by_first (inr a_from) (inr a_to) _ (inl b_high) = rw (at a (omega arith), above b b_high) (high (b - 1) d (omega arith) (omega (arith, within, long, b_high)))
    by_first (inr _) (inl a_high) _ (inl b_high) =
        rw (above a a_high, above b b_high) (pairs (a - 1) (b - 1) d (omega arith) (omega (arith, within, long, b_high)))
    by_first (inr a_from) _ _ (inr b_to) = absurd (omega arith)
