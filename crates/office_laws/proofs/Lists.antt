-- Lists with more at the end.
use Rattle.office_laws.proofs.Words.{◌≡◌, ap, refl, ℕ, suc, ◌+◌, ◌≤◌, ◌-◌, ◌≢◌, arith, List, [], ◌∷◌, ◌++◌, Option, length, map, option_to_list, slice_set, range_with_len, option_map, option_or, append-nil, same_lists, length-map-range_with_len, get_or-map-range_with_len, map-range_with_len_more, first_in, last_in, numbered, common_steps}

pub first_in-append : {X : Type 0} (xs : List X) (more : Option X) → first_in (xs ++ option_to_list more) ≡ option_or (first_in xs) more
first_in-append [] more = grind (arith, common_steps)
first_in-append (x ∷ xs) more = refl

pub last_in-append : {X : Type 0} (xs : List X) (more : Option X) → last_in (xs ++ option_to_list more) ≡ option_or more (last_in xs)
last_in-append xs more = grind (arith, common_steps)

-- ---- numbered items

pub length-numbered : {X Y : Type 0} (make : ℕ → X → Y) (first : ℕ) (xs : List X) → length (numbered make first xs) ≡ length xs
length-numbered make first [] = refl
length-numbered make first (x ∷ xs) = ap suc (length-numbered make (first + 1) xs)

pub numbered-append : {X Y : Type 0} (make : ℕ → X → Y) (first next : ℕ) (xs : List X) (more : Option X) → first + length xs ≡ next →
    numbered make first (xs ++ option_to_list more) ≡ numbered make first xs ++ option_to_list (option_map (make next) more)
numbered-append make first next [] more is = grind (arith, common_steps, is)
numbered-append make first next (x ∷ xs) more is =
    ap (λ (rest : List _). make first x ∷ rest) (numbered-append make (first + 1) next xs more (omega arith))

-- ---- items by their numbers

-- another item at one number
pub map-set : {X : Type 0} (f g : ℕ → X) (count number : ℕ) (x : X) → 1 ≤ number → number ≤ count → f number ≡ x →
    ((other : ℕ) → other ≢ number → f other ≡ g other) → map f (range_with_len 1 count) ≡ slice_set (map g (range_with_len 1 count)) (number - 1) x
map-set f g count number x least most here elsewhere =
    same_lists _ _ (grind (arith, common_steps, length-map-range_with_len)) (λ k d within.
    grind (arith, common_steps, get_or-map-range_with_len f 1 count k (1 + k) d, get_or-map-range_with_len g 1 count k (1 + k) d, length-map-range_with_len, elsewhere (1 + k), here))

-- perhaps one item more
pub map-longer : {X Y : Type 0} (f : ℕ → X) (count : ℕ) (more : Option Y) (x : X) → f (count + 1) ≡ x →
    map f (range_with_len 1 (count + length (option_to_list more))) ≡ map f (range_with_len 1 count) ++ map (λ y. x) (option_to_list more)
map-longer f count more x is = grind (arith, common_steps, append-nil, is, map-range_with_len_more f 1 count (count + 1))
