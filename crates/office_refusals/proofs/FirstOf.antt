-- The first refusal that stands, when one more is tried.
use Rattle.std.proofs.Common.{◌≡◌, ◌∙◌, ap, refl, ℕ, ◌+◌, List, [], ◌∷◌, ◌++◌, Option, Some, None, arith}
use Rattle.std.specs.{Prelude.map, Option.option_or, List.range_with_len}
use Rattle.std.proofs.lemmas.List.FromFn.{map-range_with_len_more}
use Rattle.office_step.specs.{declared.refusal.Refusal.Refusal, Refusals.first_of, Refusals.first_household}

first_of-append : (refused : List (Option Refusal)) (more : Option Refusal) → first_of (refused ++ more ∷ []) ≡ option_or (first_of refused) more
first_of-append [] None = refl
first_of-append [] (Some more) = refl
first_of-append (Some first ∷ refused) more = refl
first_of-append (None ∷ refused) more = first_of-append refused more

-- the first among the households so far, or else that of the one more
pub first_household-more : (refused : ℕ → Option Refusal) (count : ℕ) →
    first_household refused (count + 1) ≡ option_or (first_household refused count) (refused (count + 1))
first_household-more refused count =
    ap first_of (map-range_with_len_more refused 1 count (count + 1) (omega arith))
    ∙ first_of-append (map refused (range_with_len 1 count)) (refused (count + 1))
