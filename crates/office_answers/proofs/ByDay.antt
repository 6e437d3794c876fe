-- A list that was sorted by its days, and that keeps the order of the items of one day, is that list day after day.
use Rattle.std.proofs.Common.{◌≡◌, ◌∙◌, ◌⊎◌, inl, inr, sym, ap, ap₂, refl, ℕ, zero, suc, ◌+◌, ◌<◌, ◌≤◌, arith, true, false, List, [], ◌∷◌, ◌++◌, filter, All, get_or, ltb}
use Rattle.std.specs.Prelude.{◌==◌}
use Rattle.std.specs.{List.range_with_len, List.flat_map, Ordering.nat_cmp, Ordering.is_lt}
use Rattle.std.specs.List.Sorted.{IsSortedByKey, IsStableByKey, IsNonDecreasingBy, ties}
use Rattle.std.proofs.lemmas.Bool.{cases_order, lt-ltb, le-ltb, eq-eqb, ne_eqb}
use Rattle.std.proofs.lemmas.List.{Concat.flat_map-append, append-nil, Elements.filter_agree, Sorted.IsNonDecreasingBy-from_sort}
use Rattle.list_laws.proofs.{Filters.filter_none, Filters.filter_all, Ranges.range-more}

flat_map-same : {X : Type 0} (f g : ℕ → List X) → ((k : ℕ) → f k ≡ g k) → (ks : List ℕ) → flat_map f ks ≡ flat_map g ks
flat_map-same f g same [] = refl
flat_map-same f g same (k ∷ ks) = ap₂ ◌++◌ (same k) (flat_map-same f g same ks)

module _ {X : Type 0} (n : X → ℕ) where
  -- the items whose number is less, and those of that number
  abbrev pub below : List X → ℕ → List X
  below xs k = filter (λ x. ltb (n x) k) xs

  abbrev pub those_of : List X → ℕ → List X
  those_of xs k = filter (λ x. n x == k) xs

  below-cons : (x : X) (xs : List X) (k : ℕ) → All (λ y. n x ≤ n y) xs → below xs (suc k) ≡ below xs k ++ those_of xs k →
      below (x ∷ xs) (suc k) ≡ below (x ∷ xs) k ++ those_of (x ∷ xs) k
  below-cons x xs k later rest = by_order (cases_order (n x) k)
    where
      by_order : (n x ≡ k) ⊎ ((n x < k) ⊎ (k < n x)) → below (x ∷ xs) (suc k) ≡ below (x ∷ xs) k ++ those_of (x ∷ xs) k
      by_order (inl same) =
          let less : ltb (n x) (suc k) ≡ true = lt-ltb _ _ (omega arith) in
          let not_less : ltb (n x) k ≡ false = le-ltb _ _ (omega arith) in
          let this : (n x == k) ≡ true = eq-eqb _ _ same in
          let no_earlier : All (λ y. ltb (n y) k ≡ false) xs =
          λ j d lt. let least : n x ≤ n (get_or xs j d) = later j d lt in le-ltb _ _ (omega arith) in
          let none : below xs k ≡ [] = filter_none (λ (y : X). ltb (n y) k) xs no_earlier in
          rw (less, not_less, this)
          (rw none (ap (λ (ys : List X). x ∷ ys) (rest ∙ ap (λ (ys : List X). ys ++ those_of xs k) none)))
      by_order (inr (inl before)) =
          let less : ltb (n x) (suc k) ≡ true = lt-ltb _ _ (omega arith) in
          let less_too : ltb (n x) k ≡ true = lt-ltb _ _ before in
          let other : (n x == k) ≡ false = ne_eqb _ _ (λ same. omega arith) in
          rw (less, less_too, other) (ap (λ (ys : List X). x ∷ ys) rest)
      by_order (inr (inr after)) =
          let not_less : ltb (n x) (suc k) ≡ false = le-ltb _ _ (omega arith) in
          let nor_less : ltb (n x) k ≡ false = le-ltb _ _ (omega arith) in
          let other : (n x == k) ≡ false = ne_eqb _ _ (λ same. omega arith) in
          rw (not_less, nor_less, other) rest

  below-more : (xs : List X) → IsNonDecreasingBy n xs → (k : ℕ) → below xs (suc k) ≡ below xs k ++ those_of xs k
  below-more [] up k = refl
  below-more (x ∷ xs) up k =
      below-cons x xs k (λ j d lt. up 0 (suc j) d (omega arith) (omega arith))
      (below-more xs (λ i j d le lt. up (suc i) (suc j) d (omega arith) (omega arith)) k)

  below-one_by_one : (xs : List X) → IsNonDecreasingBy n xs → (count : ℕ) → below xs count ≡ flat_map (those_of xs) (range_with_len 0 count)
  below-one_by_one xs up zero = filter_none (λ (x : X). ltb (n x) 0) xs (λ j d lt. le-ltb _ _ (omega arith))
  below-one_by_one xs up (suc count) =
      let next : 0 + count ≡ count = omega arith in
      below-more xs up count
      ∙ ap (λ (ys : List X). ys ++ those_of xs count) (below-one_by_one xs up count)
      ∙ ap (λ (ys : List X). flat_map (those_of xs) (range_with_len 0 count) ++ ys) (sym (append-nil (those_of xs count)))
      ∙ sym (flat_map-append (those_of xs) (range_with_len 0 count) (count ∷ []))
      ∙ ap (flat_map (those_of xs)) (ap (λ (k : ℕ). range_with_len 0 count ++ k ∷ []) (sym next) ∙ sym (range-more 0 count))

  -- to tie with an item is to have its number
  tied : (item x : X) → ties (λ (a b : X). is_lt (nat_cmp (n a) (n b))) item x ≡ (n x == n item)
  tied item x = by_order (cases_order (n x) (n item))
    where
      by_order : (n x ≡ n item) ⊎ ((n x < n item) ⊎ (n item < n x)) → ties (λ (a b : X). is_lt (nat_cmp (n a) (n b))) item x ≡ (n x == n item)
      by_order (inl same) =
          let not_less : ltb (n item) (n x) ≡ false = le-ltb _ _ (omega arith) in
          let nor_less : ltb (n x) (n item) ≡ false = le-ltb _ _ (omega arith) in
          let this : (n x == n item) ≡ true = eq-eqb _ _ same in
          let that : (n item == n x) ≡ true = eq-eqb _ _ (sym same) in
          rw (not_less, nor_less, this, that) refl
      by_order (inr (inl before)) =
          let less : ltb (n x) (n item) ≡ true = lt-ltb _ _ before in
          let not_less : ltb (n item) (n x) ≡ false = le-ltb _ _ (omega arith) in
          let other : (n x == n item) ≡ false = ne_eqb _ _ (λ same. omega arith) in
          let nor_other : (n item == n x) ≡ false = ne_eqb _ _ (λ same. omega arith) in
          rw (less, not_less, other, nor_other) refl
      by_order (inr (inr after)) =
          let less : ltb (n item) (n x) ≡ true = lt-ltb _ _ after in
          let other : (n x == n item) ≡ false = ne_eqb _ _ (λ same. omega arith) in
          rw (less, other) refl

  -- where some item has each number, a stable sort leaves those of one number as they were
  those_stay : (item : ℕ → X) → ((k : ℕ) → n (item k) ≡ k) → (xs ys : List X) → IsStableByKey n nat_cmp xs ys → (k : ℕ) → those_of ys k ≡ those_of xs k
  those_stay item has xs ys stable k =
      filter_agree (λ (x : X). n x == k) (ties (λ (a b : X). is_lt (nat_cmp (n a) (n b))) (item k)) (λ (x : X). sym (same x)) ys
      ∙ stable (item k)
      ∙ filter_agree (ties (λ (a b : X). is_lt (nat_cmp (n a) (n b))) (item k)) (λ (x : X). n x == k) same xs
    where
      same : (x : X) → ties (λ (a b : X). is_lt (nat_cmp (n a) (n b))) (item k) x ≡ (n x == k)
      same x = tied (item k) x ∙ ap (λ (m : ℕ). n x == m) (has k)

  pub sorted_one_by_one : (item : ℕ → X) → ((k : ℕ) → n (item k) ≡ k) → (last : ℕ) (xs ys : List X) → All (λ x. n x ≤ last) ys →
      IsSortedByKey n nat_cmp ys → IsStableByKey n nat_cmp xs ys → ys ≡ flat_map (those_of xs) (range_with_len 0 (last + 1))
  sorted_one_by_one item has last xs ys bound sorted stable =
      sym (filter_all (λ (x : X). ltb (n x) (last + 1)) ys (λ j d lt. let within : n (get_or ys j d) ≤ last = bound j d lt in lt-ltb _ _ (omega arith)))
      ∙ below-one_by_one ys (IsNonDecreasingBy-from_sort n ys sorted) (last + 1)
      ∙ flat_map-same (those_of ys) (those_of xs) (those_stay item has xs ys stable) (range_with_len 0 (last + 1))
