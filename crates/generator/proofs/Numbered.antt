-- One act more among those that are numbered.
use Rattle.std.proofs.Common.{◌≡◌, ◌∙◌, ◌++◌, ◌∷◌, ◌+◌, [], ℕ, List, sym, ap, append-nil, ◌<◌, length, get_or, take, flat_map, arith}
use Rattle.std.specs.List.{enumerate_from}
use Rattle.std.proofs.lemmas.Grind.{flat_map-append}
use Rattle.std.proofs.lemmas.List.{take_more, length-take}

numbered_more : {X : Type 0} (n : ℕ) (xs : List X) (x : X) → enumerate_from n (xs ++ x ∷ []) ≡ enumerate_from n xs ++ (n + length xs, x) ∷ []
numbered_more n [] x = ap (λ k. (k, x) ∷ []) (omega arith)
numbered_more n (y ∷ xs) x = ap (λ ys. (n, y) ∷ ys) (numbered_more (n + 1) xs x ∙ ap (λ k. enumerate_from (n + 1) xs ++ (k, x) ∷ []) (omega arith))

pub numbered_to : {X : Type 0} (xs : List X) (i : ℕ) (x : X) → i < length xs → x ≡ get_or xs i x
    → enumerate_from 1 (take (i + 1) xs) ≡ enumerate_from 1 (take i xs) ++ (i + 1, x) ∷ []
numbered_to xs i x inside is =
    let place : 1 + length (take i xs) ≡ i + 1 = omega (arith, length-take i xs, inside) in
    ap (enumerate_from 1) (take_more xs i x inside ∙ ap (λ y. take i xs ++ y ∷ []) (sym is))
    ∙ numbered_more 1 (take i xs) x
    ∙ ap (λ k. enumerate_from 1 (take i xs) ++ (k, x) ∷ []) place

pub told_more : {X : Type 0} (f : ℕ × X → List ℕ) (xs : List X) (i : ℕ) (x : X) → i < length xs → x ≡ get_or xs i x
    → flat_map f (enumerate_from 1 (take (i + 1) xs)) ≡ flat_map f (enumerate_from 1 (take i xs)) ++ f (i + 1, x)
told_more f xs i x inside is =
    let earlier = enumerate_from 1 (take i xs) in
    ap (flat_map f) (numbered_to xs i x inside is)
    ∙ flat_map-append f earlier ((i + 1, x) ∷ [])
    ∙ ap (λ ys. flat_map f earlier ++ ys) (append-nil (f (i + 1, x)))
