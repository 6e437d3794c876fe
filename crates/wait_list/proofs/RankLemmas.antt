-- The least number of a list with one more.
use Rattle.wait_list.proofs.Words.{◌≡◌, ap, ℕ, min, List, [], ◌∷◌, ◌++◌, refl, Some, option_map_or, reduce, fold-append}

-- it is the least so far, or the one more where that is less
pub reduce_min-push : (numbers : List ℕ) (number : ℕ) →
    reduce min (numbers ++ number ∷ []) ≡ Some (option_map_or (λ best. min best number) (reduce min numbers) number)
reduce_min-push [] number = refl
reduce_min-push (first ∷ numbers) number = ap Some (fold-append min first numbers (number ∷ []))
