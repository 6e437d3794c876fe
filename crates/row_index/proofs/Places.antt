-- Rows by a list of their places.
use Rattle.row_index.proofs.Words.{◌≡◌, ◌≢◌, ℕ, zero, suc, ◌<◌, Bool, true, false, List, [], ◌∷◌, ◌++◌, length, get_or, Some, None, sym, ◌∙◌, ap, subst, arith, find, slice_get, All, AllPairs, Contains, insert, range_with_len, IsPermutation, IsPermutation-insert, IsPermutation-to_front, IsPermutation-cons, IsPermutation-trans, All-permutation, Contains-permutation, All-contains, find_fails, find_none, common_steps, length-range_with_len, get_or-range_with_len, none-some, slice_get_within, slice_get-get_or, get_or_from_slice_get, range_more}

-- all places, and one more that is put in anywhere
pub all_places-insert : (n i : ℕ) (places : List ℕ) → IsPermutation (range_with_len 0 n) places →
    IsPermutation (range_with_len 0 (suc n)) (insert places i n)
all_places-insert n i places all =
    subst (λ ks. IsPermutation ks (insert places i n)) {x = range_with_len 0 n ++ n ∷ []} (sym (range_more 0 n n (omega arith)))
    (IsPermutation-trans _ _ _ (IsPermutation-to_front (range_with_len 0 n) n)
    (IsPermutation-trans _ _ _ (IsPermutation-cons n (range_with_len 0 n) places all) (IsPermutation-insert places i n)))

-- every place is below their number
pub places_within : (n : ℕ) (places : List ℕ) → IsPermutation (range_with_len 0 n) places → All (λ place. place < n) places
places_within n places all =
    All-permutation (λ place. place < n) (range_with_len 0 n) places all
    (λ k d within. (let lt = rw length-range_with_len at within in rw (get_or-range_with_len 0 n k d lt) (omega (arith, lt))))

-- and each is there
pub place_there : (n : ℕ) (places : List ℕ) → IsPermutation (range_with_len 0 n) places → (place : ℕ) → place < n → Contains places place
place_there n places all place within =
    Contains-permutation (range_with_len 0 n) places place all
    (place, rw (length-range_with_len 0 n) within, get_or-range_with_len 0 n place place within ∙ omega arith)

-- where the test fails at each of the places, it fails for each row
pub none_at_places : {Row : Type 0} (passes : Row → Bool) (rows : List Row) (places : List ℕ) (passes_at : ℕ → Bool) →
    IsPermutation (range_with_len 0 (length rows)) places →
    ((place : ℕ) (row : Row) → slice_get rows place ≡ Some row → passes_at place ≡ passes row) →
    find passes_at places ≡ None → find passes rows ≡ None
none_at_places passes rows places passes_at all agrees none =
    find_fails passes rows
    (λ k d within. sym (agrees k (get_or rows k d) (slice_get-get_or rows k d within))
    ∙ All-contains (λ place. passes_at place ≡ false) places k (find_none passes_at places none) (place_there (length rows) places all k within))

-- a row that passes is the one that is found, where none that passes has another's key
pub find_own : {Row K : Type 0} (key : Row → K) (a : K) (passes : Row → Bool) → ((row : Row) → passes row ≡ true → key row ≡ a) →
    (rows : List Row) → AllPairs (λ row other. key row ≢ key other) rows →
    (place : ℕ) (row : Row) → slice_get rows place ≡ Some row → passes row ≡ true → find passes rows ≡ Some row
find_own key a passes means [] own place row is passed = absurd (none-some row is)
find_own key a passes means (first ∷ rows) own zero row is passed =
    let same : first ≡ row = get_or_from_slice_get (first ∷ rows) 0 row row is in
    rw (ap passes same ∙ passed) is
find_own key a passes means (first ∷ rows) own (suc place) row is passed =
    let there = get_or_from_slice_get rows place row row is in
    let apart = own 0 (suc place) row (omega arith) (omega (arith, slice_get_within rows place row is)) in
    let others = find_own key a passes means rows (λ i j d before within. own (suc i) (suc j) d (omega arith) (omega (arith, within))) place row is passed in
    grind (arith, common_steps, others, apart, there, means first, means row passed)
