-- The codes of preferences, part by part; the seven fields of a record.
use Rattle.std.proofs.Common.{◌≡◌, ◌∙◌, ◌<◌, ◌≤◌, ◌++◌, ℕ, zero, suc, refl, sym, ap, List, [], ◌∷◌, map, drop, get_or, length, option_map, Option, Some, None, arith, append_assoc, append-nil}
use Rattle.std.specs.Borrow.{Bor}
use Rattle.numerals.specs.Numerals.{number_between}
use Rattle.days_core.specs.DayText.{◌>>=◌}
use Rattle.applicant_rows.specs.Applicants.{each}

abbrev pub read_part : List ℕ → Option ℕ
read_part = number_between 1 16

abbrev pub numbers_in : List (Bor (List ℕ)) → Option (List ℕ)
numbers_in parts = each read_part (map (λ part. part.now) parts)

-- what all parts are read as, where these numbers were read already
abbrev pub each_after : List ℕ → List (Bor (List ℕ)) → Option (List ℕ)
each_after done parts = option_map (λ more. done ++ more) (numbers_in parts)

pub from_none : (parts : List (Bor (List ℕ))) → each_after [] parts ≡ numbers_in parts
from_none parts = go (numbers_in parts)
  where
    go : (o : Option (List ℕ)) → option_map (λ more. [] ++ more) o ≡ o
    go None = refl
    go (Some xs) = refl

-- one part more
after_one : (done : List ℕ) (x : ℕ) (o : Option (List ℕ)) → option_map (λ more. done ++ more) (o >>= λ xs. Some (x ∷ xs)) ≡ option_map (λ more. (done ++ x ∷ []) ++ more) o
after_one done x None = refl
after_one done x (Some xs) = ap Some (sym (append_assoc done (x ∷ []) xs))

step : (done : List ℕ) (part : Bor (List ℕ)) (parts : List (Bor (List ℕ))) (x : ℕ) → read_part part.now ≡ Some x
    → each_after done (part ∷ parts) ≡ each_after (done ++ x ∷ []) parts
step done part parts x is =
    ap (λ (o : Option ℕ). option_map (λ more. done ++ more) (o >>= λ y. numbers_in parts >>= λ ys. Some (y ∷ ys))) is ∙ after_one done x (numbers_in parts)

stop : (done : List ℕ) (part : Bor (List ℕ)) (parts : List (Bor (List ℕ))) → read_part part.now ≡ None → each_after done (part ∷ parts) ≡ None
stop done part parts is = ap (λ (o : Option ℕ). option_map (λ more. done ++ more) (o >>= λ y. numbers_in parts >>= λ ys. Some (y ∷ ys))) is

pub part_more : (done : List ℕ) (parts : List (Bor (List ℕ))) (at : ℕ) (d : Bor (List ℕ)) (x : ℕ) → at < length parts → read_part (get_or parts at d).now ≡ Some x
    → each_after done (drop at parts) ≡ each_after (done ++ x ∷ []) (drop (suc at) parts)
part_more done [] at d x inside is = absurd (omega arith)
part_more done (p ∷ ps) zero d x inside is = step done p ps x is
part_more done (p ∷ ps) (suc at) d x inside is = part_more done ps at d x (omega arith) is

pub part_none : (done : List ℕ) (parts : List (Bor (List ℕ))) (at : ℕ) (d : Bor (List ℕ)) → at < length parts → read_part (get_or parts at d).now ≡ None
    → each_after done (drop at parts) ≡ None
part_none done [] at d inside is = absurd (omega arith)
part_none done (p ∷ ps) zero d inside is = stop done p ps is
part_none done (p ∷ ps) (suc at) d inside is = part_none done ps at d (omega arith) is

pub at_end : (done : List ℕ) (parts : List (Bor (List ℕ))) (at : ℕ) → length parts ≤ at → each_after done (drop at parts) ≡ Some done
at_end done [] zero past = ap Some (append-nil done)
at_end done [] (suc at) past = ap Some (append-nil done)
at_end done (p ∷ ps) zero past = absurd (omega arith)
at_end done (p ∷ ps) (suc at) past = at_end done ps at (omega arith)
