-- The first row with a number out of its range, behind those that fit.
use Rattle.std.proofs.Common.{◌≡◌, ◌∙◌, refl, sym, ap, subst, Bool, true, List, [], ◌∷◌, ◌++◌, None, Some, All, append-nil}
use Rattle.std.proofs.lemmas.List.Elements.{All-head, All-tail}
use Rattle.store_decode.specs.Read.{first_unfit, BeginsUnfit, AreFitting}

behind : {X : Type 0} (fits : X → Bool) (fitting rest : List X) → All (λ row. fits row ≡ true) fitting → first_unfit fits (fitting ++ rest) ≡ first_unfit fits rest
behind fits [] rest fit = refl
behind fits (row ∷ fitting) rest fit = rw (All-head (λ row. fits row ≡ true) row fitting fit) (behind fits fitting rest (All-tail (λ row. fits row ≡ true) row fitting fit))

begins : {X : Type 0} (fits : X → Bool) (row : X) (more : List X) → BeginsUnfit fits (row ∷ more) → first_unfit fits (row ∷ more) ≡ Some row
begins fits row more unfit = rw unfit refl

pub unfit_is : {X : Type 0} (fits : X → Bool) (fitting rest more : List X) (row : X) → AreFitting fits fitting rest → rest ≡ row ∷ more → first_unfit fits (fitting ++ rest) ≡ Some row
unfit_is fits fitting rest more row are is =
    behind fits fitting rest are.fit ∙ ap (first_unfit fits) is ∙ begins fits row more (subst (BeginsUnfit fits) is are.unfit)

pub none_unfit : {X : Type 0} (fits : X → Bool) (fitting rest : List X) → AreFitting fits fitting rest → rest ≡ [] → (first_unfit fits (fitting ++ rest) ≡ None) × (fitting ≡ fitting ++ rest)
none_unfit fits fitting rest are none =
    (behind fits fitting rest are.fit ∙ ap (first_unfit fits) none, sym (ap (λ l. fitting ++ l) none ∙ append-nil fitting))
