-- Lists in the order of keys of any type, and where a binary search among them ends.
use Rattle.row_index.proofs.Words.{◌≡◌, ℕ, ◌+◌, ◌-◌, ◌<◌, ◌≤◌, Bool, true, false, List, length, get_or, subst, arith, find, slice_get, insert, IsPartitionPoint, IsPartitionedBy, IsSortedBy, IsSortedByKey, true_from_ne_false, ranks_by, sorted_far, common_steps, IsTotalOrder, IsStrictWeakOrder, is_lt, is_eq, Ordering, length-insert, get_or-insert_below, get_or-insert_at, get_or-insert_above}
use Rattle.row_index.proofs.Points.{if_passes, find_at_point}

-- an element between what is not above it and what is not below it keeps a list sorted
pub IsSortedBy-insert : {X : Type 0} (lt : X → X → Bool) (xs : List X) (i : ℕ) (y : X) → IsSortedBy lt xs → i ≤ length xs →
    ((k : ℕ) (d : X) → k < i → lt y (get_or xs k d) ≡ false) →
    ((k : ℕ) (d : X) → i ≤ k → k < length xs → lt (get_or xs k d) y ≡ false) →
    IsSortedBy lt (insert xs i y)
IsSortedBy-insert lt xs i y sorted le above below k d low high =
    let new = insert xs i y in
    let length_new = length-insert xs i y le in
    let before : (j : ℕ) → j < i → get_or new j d ≡ get_or xs j d = λ j lower. get_or-insert_below xs i y d j lower le in
    let here : (j : ℕ) → j ≡ i → get_or new j d ≡ y = λ j at. rw at (get_or-insert_at xs i y d le) in
    let after : (j : ℕ) → i < j → get_or new j d ≡ get_or xs (j - 1) d =
    λ j higher. subst (λ q. get_or new q d ≡ get_or xs (j - 1) d) {x = j - 1 + 1} (omega (arith, higher)) (get_or-insert_above xs i y d (j - 1) (omega (arith, higher)) le) in
    grind (arith, before k, here k, after k, before (k + 1), here (k + 1), after (k + 1), sorted k d, sorted (k - 1) d, above k d, below k d)

module _ {K : Type 0} {R : K → K → Ordering} (order : IsTotalOrder R) {X : Type 0} (key : X → K) (xs : List X) (sorted : IsSortedByKey key R xs) (a : K) where
  on_elements : IsStrictWeakOrder (λ x y. is_lt (R (key x) (key y)))
  on_elements = ranks_by order key

  -- those with smaller keys come first
  pub parted : IsPartitionedBy (λ x. is_lt (R (key x) a)) xs
  parted i j d le within lower =
      let keys = ranks_by order (λ (k : K). k) in
      let far = sorted_far (λ x y. is_lt (R (key x) (key y))) on_elements xs sorted i j d le within in
      true_from_ne_false _ (λ above. (let other = keys.chain (key (get_or xs j d)) (key (get_or xs i d)) a far above in cc))

  -- the first of the key is where those with smaller keys end
  pub find_key : (same : K → Bool) → ((k : K) → is_eq (R k a) ≡ same k) → (i : ℕ) → i ≤ length xs →
      IsPartitionPoint (λ x. is_lt (R (key x) a) ≡ true) (λ x. is_lt (R (key x) a) ≡ false) xs i →
      find (λ x. same (key x)) xs ≡ if_passes (λ x. same (key x)) (slice_get xs i)
  find_key same agrees i le point =
      find_at_point (λ x. same (key x)) xs i le
      (λ k d low high. another (key (get_or xs k d)) (point.0 k d low high))
      (λ j d low high is. alike (key (get_or xs i d)) (key (get_or xs j d)) (point.1 i d (omega arith) (omega arith))
      (sorted_far (λ x y. is_lt (R (key x) (key y))) on_elements xs sorted i j d low high) is)
    where
      another : (k : K) → is_lt (R k a) ≡ true → same k ≡ false
      another k lower = rw (← agrees k) (grind (arith, common_steps))

      alike : (k l : K) → is_lt (R k a) ≡ false → is_lt (R l k) ≡ false → same l ≡ true → same k ≡ true
      alike k l from far is = grind (arith, common_steps, agrees k, agrees l, order.antisymm k a, order.congr l a k)
