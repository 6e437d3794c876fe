-- Rows of which none is out of place: their acts never fall, and are those of one of so many acts.
use Rattle.book_replay.proofs.Words.{◌≡◌, refl, ℕ, zero, suc, ◌≤◌, arith, Bool, true, List, [], ◌∷◌, Option, None, map, All, AllPairs, is_some, not, le-leb, All-nil, All-cons, All-tail, stray, common_steps, nat_tests}

module _ {X : Type 0} (n : X → ℕ) (count : ℕ) where
  -- the first row is in place, and then the others are
  pub stray_cons : (last : ℕ) (x : X) (xs : List X) → stray count last (map n (x ∷ xs)) ≡ None →
      (1 ≤ n x) × (last ≤ n x) × (n x ≤ count) × (stray count (n x) (map n xs) ≡ None)
  stray_cons last x xs none = grind (arith, nat_tests, common_steps, none)

  -- each is of an act from 1, and from the last one before, up to the count
  pub each_in_place : (last : ℕ) (xs : List X) → stray count last (map n xs) ≡ None → All (λ x. (1 ≤ n x) × (last ≤ n x) × (n x ≤ count)) xs
  each_in_place last [] none = All-nil (λ x. (1 ≤ n x) × (last ≤ n x) × (n x ≤ count))
  each_in_place last (x ∷ xs) none =
      let parts = stray_cons last x xs none in
      All-cons (λ x. (1 ≤ n x) × (last ≤ n x) × (n x ≤ count)) x xs (parts.0, parts.1, parts.2)
      (λ k d within. (let later = each_in_place (n x) xs parts.3 k d within in (later.0, omega (arith, parts.1, later), later.2)))

  pub never_fall : (last : ℕ) (xs : List X) → stray count last (map n xs) ≡ None → AllPairs (λ x next. n x ≤ n next) xs
  never_fall last [] none i j d before within = absurd (omega (arith, within))
  never_fall last (x ∷ xs) none i zero d before within = absurd (omega (arith, before))
  never_fall last (x ∷ xs) none zero (suc j) d before within =
      (each_in_place (n x) xs (stray_cons last x xs none).3 j d (omega (arith, within))).1
  never_fall last (x ∷ xs) none (suc i) (suc j) d before within =
      never_fall (n x) xs (stray_cons last x xs none).3 i j d (omega (arith, before)) (omega (arith, within))

  -- rows that never fall and are those of acts that are there are in place
  pub in_place : (last : ℕ) (xs : List X) → All (λ x. last ≤ n x) xs → All (λ x. 1 ≤ n x) xs → All (λ x. n x ≤ count) xs →
      AllPairs (λ x next. n x ≤ n next) xs → stray count last (map n xs) ≡ None
  in_place last [] lasts ones counts rise = refl
  in_place last (x ∷ xs) lasts ones counts rise =
      rw (le-leb 1 (n x) (ones 0 x (omega arith)), le-leb last (n x) (lasts 0 x (omega arith)), le-leb (n x) count (counts 0 x (omega arith)))
      (in_place (n x) xs (λ k d within. rise 0 (suc k) d (omega arith) (omega (arith, within)))
      (All-tail (λ x. 1 ≤ n x) x xs ones) (All-tail (λ x. n x ≤ count) x xs counts)
      (λ i j d before within. rise (suc i) (suc j) d (omega (arith, before)) (omega (arith, within))))

-- nothing is there where it is told that nothing is
pub none_there : {X : Type 0} (found : Option X) (none : Bool) → is_some found ≡ not none → none ≡ true → found ≡ None
none_there found none is told = grind (arith, common_steps, is, told)
