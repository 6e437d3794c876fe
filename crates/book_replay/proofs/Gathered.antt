-- Rows that are gathered act by act.
use Rattle.book_replay.proofs.Words.{get_or, nat_tests, common_steps, ◌≡◌, ◌∙◌, sym, refl, ℕ, zero, suc, ◌+◌, ◌≤◌, ◌<◌, ◌==◌, arith, Bool, List, [], ◌∷◌, ◌++◌, None, map, filter, nat_le, add-one, le-leb, lt-leb, filter_passes, stray, filter_all, filter_none}
use Rattle.std.specs.List.{range_with_len, flat_map}
use Rattle.book_replay.proofs.InPlace.{stray_cons, each_in_place}
use Rattle.list_laws.proofs.Ranges.{flat_map-range_more}

-- ---- one act more

pub act_more : {X : Type 0} (of_act : ℕ → List X) (count n : ℕ) → n ≡ count + 1 →
    flat_map of_act (range_with_len 1 (count + 1)) ≡ flat_map of_act (range_with_len 1 count) ++ of_act n
act_more of_act count n is = rw add-one (flat_map-range_more of_act 1 count n (omega (arith, is)))

-- ---- all acts

module _ {X : Type 0} (n : X → ℕ) (count : ℕ) where
  abbrev up_to : ℕ → List X → List X
  up_to k xs = filter (λ x. nat_le (n x) k) xs

  abbrev only : ℕ → List X → List X
  only k xs = filter (λ x. n x == k) xs

  next_cons : (k : ℕ) (x : X) (xs : List X) → up_to (suc k) xs ≡ up_to k xs ++ only (suc k) xs → (k < n x → up_to k xs ≡ []) →
      up_to (suc k) (x ∷ xs) ≡ up_to k (x ∷ xs) ++ only (suc k) (x ∷ xs)
  next_cons k x xs later none_yet = grind (arith, nat_tests, common_steps, later, none_yet)

  -- rows of acts up to the next are those up to this one, and then those of the next
  next_only : (k last : ℕ) (xs : List X) → stray count last (map n xs) ≡ None → up_to (suc k) xs ≡ up_to k xs ++ only (suc k) xs
  next_only k last [] none = refl
  next_only k last (x ∷ xs) none =
      let rest = (stray_cons n count last x xs none).3 in
      next_cons k x xs (next_only k (n x) xs rest)
      (λ less. filter_none (λ y. nat_le (n y) k) xs (λ i d within. lt-leb (n (get_or xs i d)) k (omega (arith, less, each_in_place n count (n x) xs rest i d within))))

  gathered_up_to : (k : ℕ) (xs : List X) → stray count 0 (map n xs) ≡ None → flat_map (λ a. only a xs) (range_with_len 1 k) ≡ up_to k xs
  gathered_up_to zero xs none =
      sym (filter_none (λ x. nat_le (n x) 0) xs (λ i d within. lt-leb (n (get_or xs i d)) 0 (omega (arith, each_in_place n count 0 xs none i d within))))
  gathered_up_to (suc k) xs none = rw (flat_map-range_more (λ a. only a xs) 1 k (suc k) (omega arith), gathered_up_to k xs none) (sym (next_only k 0 xs none))

  -- rows that are in place are those of each act, one act's after another's
  pub gathered_all : (k : ℕ) (xs : List X) → count ≤ k → stray count 0 (map n xs) ≡ None →
      flat_map (λ a. only a xs) (range_with_len 1 k) ≡ xs
  gathered_all k xs le none =
      gathered_up_to k xs none
      ∙ filter_all (λ x. nat_le (n x) k) xs (λ i d within. le-leb (n (get_or xs i d)) k (omega (arith, le, each_in_place n count 0 xs none i d within)))

-- ---- rows of one act among others

-- what was kept is kept again
pub kept_again : {X : Type 0} (passes : X → Bool) (xs : List X) → filter passes (filter passes xs) ≡ filter passes xs
kept_again passes xs = filter_all passes (filter passes xs) (filter_passes passes xs)
