-- Records of seven fields, and others.
use Rattle.std.proofs.Common.{◌≡◌, ◌<◌, ◌==◌, ℕ, zero, suc, false, refl, List, [], ◌∷◌, length, Some, None, arith}
use Rattle.std.proofs.lemmas.Bool.{true≢false}
use Rattle.std.proofs.lemmas.Option.{none-some}
use Rattle.csv.specs.Records.{field_at}
use Rattle.applicant_rows.specs.Applicants.{row_from}
use Rattle.applicant_rows.specs.declared.row.ImportRow.{ImportRow}

-- a record has a field at each place below its length
pub is_there : (fields : List (List ℕ)) (at : ℕ) → at < length fields → None ≡ field_at fields at → ⊥
unfolding field_at
is_there [] at inside none = absurd (omega arith)
is_there (f ∷ fs) zero inside none = none-some f none
is_there (f ∷ fs) (suc at) inside none = is_there fs at (omega arith) none

-- the seven are all
pub are_seven : (fields : List (List ℕ)) (a b c d e f g : List ℕ) → length fields ≡ 7
    → Some a ≡ field_at fields 0 → Some b ≡ field_at fields 1 → Some c ≡ field_at fields 2 → Some d ≡ field_at fields 3
    → Some e ≡ field_at fields 4 → Some f ≡ field_at fields 5 → Some g ≡ field_at fields 6
    → a ∷ b ∷ c ∷ d ∷ e ∷ f ∷ g ∷ [] ≡ fields
unfolding field_at
are_seven (p ∷ q ∷ r ∷ s ∷ t ∷ u ∷ v ∷ []) a b c d e f g seven ea eb ec ed ee ef eg = cc
are_seven [] a b c d e f g seven ea eb ec ed ee ef eg = absurd (omega arith)
are_seven (p ∷ []) a b c d e f g seven ea eb ec ed ee ef eg = absurd (omega arith)
are_seven (p ∷ q ∷ []) a b c d e f g seven ea eb ec ed ee ef eg = absurd (omega arith)
are_seven (p ∷ q ∷ r ∷ []) a b c d e f g seven ea eb ec ed ee ef eg = absurd (omega arith)
are_seven (p ∷ q ∷ r ∷ s ∷ []) a b c d e f g seven ea eb ec ed ee ef eg = absurd (omega arith)
are_seven (p ∷ q ∷ r ∷ s ∷ t ∷ []) a b c d e f g seven ea eb ec ed ee ef eg = absurd (omega arith)
are_seven (p ∷ q ∷ r ∷ s ∷ t ∷ u ∷ []) a b c d e f g seven ea eb ec ed ee ef eg = absurd (omega arith)
are_seven (p ∷ q ∷ r ∷ s ∷ t ∷ u ∷ v ∷ w ∷ ws) a b c d e f g seven ea eb ec ed ee ef eg = absurd (omega arith)

-- a record of another number of fields is a bad row
pub not_seven : (clerk : ℕ) (fields : List (List ℕ)) → (length fields == 7) ≡ false → ImportRow.Bad ≡ row_from clerk fields
unfolding row_from
not_seven clerk [] e = refl
not_seven clerk (p ∷ []) e = refl
not_seven clerk (p ∷ q ∷ []) e = refl
not_seven clerk (p ∷ q ∷ r ∷ []) e = refl
not_seven clerk (p ∷ q ∷ r ∷ s ∷ []) e = refl
not_seven clerk (p ∷ q ∷ r ∷ s ∷ t ∷ []) e = refl
not_seven clerk (p ∷ q ∷ r ∷ s ∷ t ∷ u ∷ []) e = refl
not_seven clerk (p ∷ q ∷ r ∷ s ∷ t ∷ u ∷ v ∷ []) e = absurd (true≢false e)
not_seven clerk (p ∷ q ∷ r ∷ s ∷ t ∷ u ∷ v ∷ w ∷ ws) e = refl
