-- Seven columns that were added one after another are a row.
use Rattle.std.proofs.Common.{◌≡◌, ◌∙◌, ◌++◌, ◌∷◌, [], ℕ, List, refl, sym, ap, append_assoc}
use Rattle.std.specs.List.{join_with_byte}
use Rattle.text_columns.specs.Columns.{row}

abbrev joined : List (List ℕ) → List ℕ
joined columns = join_with_byte 32 columns

one_more : (x : List ℕ) (xs : List (List ℕ)) (y : List ℕ) → joined (x ∷ xs ++ y ∷ []) ≡ joined (x ∷ xs) ++ 32 ∷ y
one_more x [] y = refl
one_more x (z ∷ xs) y = ap (λ t. x ++ 32 ∷ t) (one_more z xs y) ∙ sym (append_assoc x (32 ∷ joined (z ∷ xs)) (32 ∷ y))

-- behind the columns that stand there, a space and one more
column : (old x : List ℕ) (xs : List (List ℕ)) (y before spaced after : List ℕ)
    → before ≡ old ++ joined (x ∷ xs) → spaced ≡ before ++ 32 ∷ [] → after ≡ spaced ++ y → after ≡ old ++ joined (x ∷ xs ++ y ∷ [])
column old x xs y before spaced after f s e =
    e ∙ ap (λ t. t ++ y) (s ∙ ap (λ t. t ++ 32 ∷ []) f)
    ∙ append_assoc (old ++ joined (x ∷ xs)) (32 ∷ []) y
    ∙ append_assoc old (joined (x ∷ xs)) (32 ∷ y)
    ∙ ap (λ t. old ++ t) (sym (one_more x xs y))

pub seven : (old a b c d e f g t u v w x y z t₁ u₁ v₁ w₁ x₁ y₁ z₁ : List ℕ)
    → t ≡ old ++ a → u ≡ t ++ 32 ∷ [] → v ≡ u ++ b → w ≡ v ++ 32 ∷ [] → x ≡ w ++ c → y ≡ x ++ 32 ∷ [] → z ≡ y ++ d
    → t₁ ≡ z ++ 32 ∷ [] → u₁ ≡ t₁ ++ e → v₁ ≡ u₁ ++ 32 ∷ [] → w₁ ≡ v₁ ++ f → x₁ ≡ w₁ ++ 32 ∷ [] → y₁ ≡ x₁ ++ g → z₁ ≡ y₁ ++ 10 ∷ []
    → z₁ ≡ old ++ row (a ∷ b ∷ c ∷ d ∷ e ∷ f ∷ g ∷ [])
seven old a b c d e f g t u v w x y z t₁ u₁ v₁ w₁ x₁ y₁ z₁ p₁ s₁ p₂ s₂ p₃ s₃ p₄ s₄ p₅ s₅ p₆ s₆ p₇ end =
    let two = column old a [] b t u v p₁ s₁ p₂ in
    let three = column old a (b ∷ []) c v w x two s₂ p₃ in
    let four = column old a (b ∷ c ∷ []) d x y z three s₃ p₄ in
    let five = column old a (b ∷ c ∷ d ∷ []) e z t₁ u₁ four s₄ p₅ in
    let six = column old a (b ∷ c ∷ d ∷ e ∷ []) f u₁ v₁ w₁ five s₅ p₆ in
    let all = column old a (b ∷ c ∷ d ∷ e ∷ f ∷ []) g w₁ x₁ y₁ six s₆ p₇ in
    end ∙ ap (λ text. text ++ 10 ∷ []) all ∙ append_assoc old (joined (a ∷ b ∷ c ∷ d ∷ e ∷ f ∷ g ∷ [])) (10 ∷ [])
