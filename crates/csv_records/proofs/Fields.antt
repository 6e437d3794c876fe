-- Two lists of fields, looked at from a place on.
use Rattle.std.proofs.Common.{◌≡◌, ◌<◌, ◌≤◌, ◌&&◌, ℕ, zero, suc, Bool, true, false, refl, ap, arith, List, [], ◌∷◌, length, drop, map, get_or}
use Rattle.std.specs.Str.{bytes_eq}
use Rattle.std.specs.Borrow.{Bor}
use Rattle.csv.specs.Records.{field_at}
use Rattle.csv_records.specs.Records.{are_fields, is_field}

abbrev pub shown : List (Bor (List ℕ)) → List (List ℕ)
shown fields = map (λ field. field.now) fields

-- one place further
pub place_more : (own : List (List ℕ)) (fields : List (Bor (List ℕ))) (at : ℕ) (d : Bor (List ℕ)) → at < length fields → length own ≡ length fields
    → are_fields (drop at own) (drop at (shown fields)) ≡ (is_field own at (get_or fields at d).now && are_fields (drop (suc at) own) (drop (suc at) (shown fields)))
unfolding field_at
place_more own [] at d inside same = absurd (omega arith)
place_more [] (f ∷ fs) at d inside same = absurd (omega arith)
place_more (x ∷ xs) (f ∷ fs) zero d inside same = refl
place_more (x ∷ xs) (f ∷ fs) (suc at) d inside same = place_more xs fs at d (omega arith) (omega arith)

-- past the end all were the same
pub place_end : (own : List (List ℕ)) (fields : List (Bor (List ℕ))) (at : ℕ) → length fields ≤ at → length own ≡ length fields
    → are_fields (drop at own) (drop at (shown fields)) ≡ true
place_end [] [] zero past same = refl
place_end [] [] (suc at) past same = refl
place_end (x ∷ xs) (f ∷ fs) zero past same = absurd (omega arith)
place_end (x ∷ xs) (f ∷ fs) (suc at) past same = place_end xs fs at (omega arith) (omega arith)
place_end [] (f ∷ fs) at past same = absurd (omega arith)
place_end (x ∷ xs) [] at past same = absurd (omega arith)

-- lists of two lengths are two lists
pub other_length : (own : List (List ℕ)) (fields : List (Bor (List ℕ))) → (length own ≡ length fields → ⊥) → are_fields own (shown fields) ≡ false
other_length [] [] other = absurd (other refl)
other_length [] (f ∷ fs) other = refl
other_length (x ∷ xs) [] other = refl
other_length (x ∷ xs) (f ∷ fs) other = go (bytes_eq x f.now) (other_length xs fs (λ e. other (ap suc e)))
  where
    go : (b : Bool) → are_fields xs (shown fs) ≡ false → (b && are_fields xs (shown fs)) ≡ false
    go true e = e
    go false e = refl
