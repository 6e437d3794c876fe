-- Those of a list that have a number by a key, as the entries and the tries of a number.
use Rattle.std.proofs.Common.{◌≡◌, ◌≢◌, ℕ, List, [], ◌∷◌, ◌++◌, refl, ap, sym, ◌∙◌, append_assoc}
use Rattle.std.specs.Prelude.{◌==◌, All, filter}
use mathlib.Core.List.{IsPrefix}
use Rattle.std.proofs.lemmas.Bool.{eq-eqb, ne_eqb}
use Rattle.std.proofs.lemmas.List.{append-nil}
use Rattle.std.proofs.lemmas.List.Elements.{All-head, All-tail, filter-append}
use Rattle.book_rows.specs.declared.rows.ActRow.{ActRow}
use Rattle.book_rows.specs.declared.rows.Batch.{Batch}
use Rattle.desk_history.specs.Seen.{entries_of}

-- the key of an entry
abbrev pub of_row : ActRow → ℕ
of_row row = row.session

-- and of a try
abbrev pub of_rows : Batch → ℕ
of_rows rows = rows.act.session

module _ {A : Type 0} (key : A → ℕ) (number : ℕ) where
  abbrev pub those_of : List A → List A
  those_of list = filter (λ x. key x == number) list

  pub those_append : (xs ys : List A) → those_of (xs ++ ys) ≡ those_of xs ++ those_of ys
  those_append xs ys = filter-append (λ (x : A). key x == number) xs ys

  -- where all have the number, those are all
  pub those_own : (xs : List A) → All (λ x. key x ≡ number) xs → those_of xs ≡ xs
  those_own [] own = refl
  those_own (x ∷ xs) own =
      rw (eq-eqb (key x) number (All-head (λ (y : A). key y ≡ number) x xs own))
      (ap (λ (rest : List A). x ∷ rest) (those_own xs (All-tail (λ (y : A). key y ≡ number) x xs own)))

  -- and where none has it, those are none
  pub those_none : (xs : List A) → All (λ x. key x ≢ number) xs → those_of xs ≡ []
  those_none [] other = refl
  those_none (x ∷ xs) other =
      rw (ne_eqb (key x) number (All-head (λ (y : A). key y ≢ number) x xs other))
      (those_none xs (All-tail (λ (y : A). key y ≢ number) x xs other))

  -- what is of another number leaves them
  pub those_stay : (xs ys : List A) → All (λ x. key x ≢ number) ys → those_of (xs ++ ys) ≡ those_of xs
  those_stay xs ys other =
      those_append xs ys ∙ (ap (λ (w : List A). those_of xs ++ w) (those_none ys other) ∙ append-nil (those_of xs))

  -- what is of the number is added to them
  pub those_more : (xs ys : List A) → All (λ x. key x ≡ number) ys → those_of (xs ++ ys) ≡ those_of xs ++ ys
  those_more xs ys own = those_append xs ys ∙ ap (λ (w : List A). those_of xs ++ w) (those_own ys own)

nothing_more : {A : Type 0} (xs ys : List A) → xs ++ ys ≡ xs → ys ≡ []
nothing_more [] ys same = same
nothing_more (x ∷ xs) ys same = nothing_more xs ys (cc same)

front_is_empty : {A : Type 0} (xs ys : List A) → xs ++ ys ≡ [] → xs ≡ []
front_is_empty [] ys same = refl
front_is_empty (x ∷ xs) ys same = absurd (cc same)

-- a list between two that have the same entries has them too
pub entries_between : (number : ℕ) (xs ys zs : List ActRow) → IsPrefix xs ys → IsPrefix ys zs → entries_of number zs ≡ entries_of number xs →
    entries_of number ys ≡ entries_of number xs
entries_between number xs ys zs p q same =
    let E : List ActRow → List ActRow = entries_of number in
    let whole : E xs ++ (E p.0 ++ E q.0) ≡ E xs =
    sym (append_assoc (E xs) (E p.0) (E q.0))
    ∙ (ap (λ (w : List ActRow). w ++ E q.0) (sym (those_append of_row number xs p.0) ∙ ap E p.1)
    ∙ (sym (those_append of_row number ys q.0) ∙ (ap E q.1 ∙ same))) in
    let none : E p.0 ≡ [] = front_is_empty (E p.0) (E q.0) (nothing_more (E xs) (E p.0 ++ E q.0) whole) in
    ap E (sym p.1) ∙ (those_append of_row number xs p.0 ∙ (ap (λ (w : List ActRow). E xs ++ w) none ∙ append-nil (E xs)))
