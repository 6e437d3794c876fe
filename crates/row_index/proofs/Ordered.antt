-- Entries in the order of their keys.
use Rattle.row_index.proofs.Words.{◌≡◌, ℕ, zero, suc, ◌<◌, ◌≤◌, true, false, List, [], ◌∷◌, ◌++◌, length, Some, None, refl, sym, ◌∙◌, ap, arith, append_assoc, find, fold, All, if◌then◌else◌, nat_lt, nat_le, insert, IsPartitionPoint, nat_tests, All-nil, All-cons, All-head, All-tail, Entry, KeysNeverFall, with_entry, in_order, has_key, find_fails, cond_both, le-ltb, leb-true, ltb-true, ltb-false, elements, common_steps, ◌-◌, find-append, append-nil}

-- an entry goes where those of greater keys begin
pub with_entry-insert : (entry : Entry) (entries : List Entry) (i : ℕ) → i ≤ length entries →
    IsPartitionPoint (λ e. nat_le e.key entry.key ≡ true) (λ e. nat_le e.key entry.key ≡ false) entries i →
    insert entries i entry ≡ with_entry entries entry
with_entry-insert entry [] i le point = grind arith
with_entry-insert entry (other ∷ rest) zero le point = grind (arith, nat_tests, point.1 0 other (omega arith) (omega arith))
with_entry-insert entry (other ∷ rest) (suc i) le point =
    rw (le-ltb entry.key other.key (leb-true other.key entry.key (point.0 0 other (omega arith) (omega arith))))
    (ap (λ es. other ∷ es) (with_entry-insert entry rest i (omega arith) (
      λ k d low high. point.0 (suc k) d (omega arith) (omega arith),
      λ k d low high. point.1 (suc k) d (omega arith) (omega arith),
    )))

-- the rest of entries in order is in order, and none of it has a smaller key than the first
order-tail : (first : Entry) (rest : List Entry) → KeysNeverFall (first ∷ rest) → KeysNeverFall rest
order-tail first rest order = λ i j d le within. order (suc i) (suc j) d (omega arith) (omega arith)

order-head : (first : Entry) (rest : List Entry) → KeysNeverFall (first ∷ rest) → All (λ e. first.key ≤ e.key) rest
order-head first rest order = λ k d within. order 0 (suc k) d (omega arith) (omega arith)

order-cons : (first : Entry) (rest : List Entry) → All (λ e. first.key ≤ e.key) rest → KeysNeverFall rest → KeysNeverFall (first ∷ rest)
order-cons first rest all order i j d le within = grind (arith, elements, all (j - 1) d, order (i - 1) (j - 1) d)

-- what is true of all and of one more is true of all with it
All-with_entry : (P : Entry → Type 0) (entries : List Entry) (entry : Entry) → P entry → All P entries → All P (with_entry entries entry)
All-with_entry P [] entry is all = All-cons P entry [] is all
All-with_entry P (other ∷ rest) entry is all =
    cond_both (nat_lt entry.key other.key) _ _ (All P) (λ _. All-cons P entry (other ∷ rest) is all)
    (λ _. All-cons P other (with_entry rest entry) (All-head P other rest all) (All-with_entry P rest entry is (All-tail P other rest all)))

-- a key below the first is below all
all_above : (key : ℕ) (first : Entry) (rest : List Entry) → key < first.key → KeysNeverFall (first ∷ rest) → All (λ e. key < e.key) (first ∷ rest)
all_above key first rest lt order k d within = omega (arith, order 0 k d (omega arith) within, lt)

-- an entry more leaves the keys in order
pub order-with_entry : (entries : List Entry) (entry : Entry) → KeysNeverFall entries → KeysNeverFall (with_entry entries entry)
order-with_entry [] entry order = order-cons entry [] (All-nil (λ e. entry.key ≤ e.key)) order
order-with_entry (other ∷ rest) entry order =
    cond_both (nat_lt entry.key other.key) _ _ KeysNeverFall
    (λ is. order-cons entry (other ∷ rest)
    (λ k d within. let lt = all_above entry.key other rest (ltb-true _ _ is) order k d within in omega (arith, lt)) order)
    (λ is. order-cons other (with_entry rest entry)
    (All-with_entry (λ e. other.key ≤ e.key) rest entry (ltb-false _ _ is) (order-head other rest order))
    (order-with_entry rest entry (order-tail other rest order)))

-- a new entry is found alike before all greater keys and after them
find-new_first : (key : ℕ) (entry : Entry) (entries : List Entry) → All (λ e. entry.key < e.key) entries →
    find (has_key key) (entry ∷ entries) ≡ find (has_key key) (entries ++ entry ∷ [])
find-new_first key entry entries above = grind (arith, common_steps, none_else, find-append (has_key key) entries (entry ∷ []))
  where
    none_else : has_key key entry ≡ true → find (has_key key) entries ≡ None
    none_else is = find_fails (has_key key) entries (λ k d within. grind (arith, nat_tests, above k d within))

-- the first entry of a key is the one that was first, where one was, else the new one
pub find-with_entry : (key : ℕ) (entries : List Entry) (entry : Entry) → KeysNeverFall entries →
    find (has_key key) (with_entry entries entry) ≡ find (has_key key) (entries ++ entry ∷ [])
find-with_entry key [] entry order = refl
find-with_entry key (other ∷ rest) entry order =
    cond_both (nat_lt entry.key other.key) _ _ (λ es. find (has_key key) es ≡ find (has_key key) (other ∷ rest ++ entry ∷ []))
    (λ is. find-new_first key entry (other ∷ rest) (all_above entry.key other rest (ltb-true _ _ is) order))
    (λ _. ap (λ found. if has_key key other then Some other else found) (find-with_entry key rest entry (order-tail other rest order)))

-- entries that were put in order are in order
order-fold : (entries begun : List Entry) → KeysNeverFall begun → KeysNeverFall (fold with_entry begun entries)
order-fold [] begun order = order
order-fold (entry ∷ entries) begun order = order-fold entries (with_entry begun entry) (order-with_entry begun entry order)

-- and the first of a key is the same
find-fold : (key : ℕ) (entries begun : List Entry) → KeysNeverFall begun →
    find (has_key key) (fold with_entry begun entries) ≡ find (has_key key) (begun ++ entries)
find-fold key [] begun order = ap (find (has_key key)) (sym (append-nil begun))
find-fold key (entry ∷ entries) begun order =
    find-fold key entries (with_entry begun entry) (order-with_entry begun entry order)
    ∙ rw (find-append (has_key key) (with_entry begun entry) entries, find-with_entry key begun entry order, ← find-append (has_key key) (begun ++ entry ∷ []) entries, append_assoc)

no_entries : KeysNeverFall []
no_entries = λ i j d le within. absurd (omega (arith, within))

-- the first entry of a key is the same, in order or not
pub find-in_order : (key : ℕ) (entries : List Entry) → find (has_key key) (in_order entries) ≡ find (has_key key) entries
find-in_order key entries = find-fold key entries [] no_entries
