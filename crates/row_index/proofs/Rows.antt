-- The entries of rows, and the rows that they name.
use Rattle.row_index.proofs.Words.{◌≡◌, ℕ, suc, ◌+◌, List, [], ◌∷◌, ◌++◌, length, eqb, refl, ◌∙◌, ap, arith, find, fold, slice_get, option_and_then, option_map, Entry, with_entry, entries_from, place_of, common_steps, fold-append, IndexFinds, IndexGrows}
use Rattle.row_index.proofs.Ordered.{find-in_order}

module _ {Row : Type 0} (key : Row → ℕ) where
  -- the rows from a place on are those that their entries name
  finds_from : (all rows : List Row) (place wanted : ℕ) → ((i : ℕ) → slice_get all (place + i) ≡ slice_get rows i) →
      option_and_then (slice_get all) (place_of (entries_from key place rows) wanted) ≡ find (λ row. eqb (key row) wanted) rows
  finds_from all [] place wanted there = refl
  finds_from all (row ∷ rows) place wanted there =
      let at : place + 0 ≡ place = omega arith in
      let first = rw at at (there 0) in
      let next = λ (i : ℕ). (let after : place + suc i ≡ place + 1 + i = omega arith in rw after at (there (suc i))) in
      grind (arith, common_steps, first, finds_from all rows (place + 1) wanted next)

  -- one row more has one entry more
  entries_from-push : (rows : List Row) (row : Row) (place last : ℕ) → last ≡ place + length rows →
      entries_from key place (rows ++ row ∷ []) ≡ entries_from key place rows ++ record { key = key row; place = last } ∷ []
  entries_from-push [] row place last is = (let same : last ≡ place = omega (arith, is) in rw same)
  entries_from-push (other ∷ rows) row place last is =
      ap (λ (es : List Entry). record { key = key other; place = place } ∷ es) (entries_from-push rows row (place + 1) last (omega (arith, is)))

pub index-finds : {Row : Type 0} → IndexFinds Row
index-finds key rows wanted =
    ap (λ found. option_and_then (slice_get rows) (option_map (λ entry. entry.place) found)) (find-in_order wanted (entries_from key 0 rows))
    ∙ finds_from key rows rows 0 wanted (λ i. ap (slice_get rows) (omega arith))

pub index-grows : {Row : Type 0} → IndexGrows Row
index-grows key rows row =
    ap (λ es. fold with_entry [] es) (entries_from-push key rows row 0 (length rows) (omega arith))
    ∙ fold-append with_entry [] (entries_from key 0 rows) (record { key = key row; place = length rows } ∷ [])
