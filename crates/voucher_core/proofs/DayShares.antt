-- The shares of the days of a month, and what its changes come to.
use Rattle.voucher_core.proofs.Words.{◌≡◌, ℕ, zero, suc, ◌+◌, ◌-◌, ◌<◌, ◌≤◌, List, [], ◌∷◌, ℤ, pos, ◌+ℤ◌, ◌-ℤ◌, refl, ap, arith, ints, sum_by, sum_by-cons, range_with_len, days_in, first_of, last_of, Record, day_share, assistance_on, Stretch, Change, share_on, certified_on, certified_amount, change_on, changes, difference, CoverLongest, cover_few}
use Rattle.voucher_core.proofs.Covered.{month_covered}

-- the same by one sum as by another, from another number on
pub shifted : (f g : ℕ → ℕ) (a b n : ℕ) → ((k : ℕ) → k < n → f (a + k) ≡ g (b + k)) → sum_by f (range_with_len a n) ≡ sum_by g (range_with_len b n)
shifted f g a b zero each = refl
shifted f g a b (suc n) each =
    let here : f (a + 0) ≡ g (b + 0) = each 0 (omega arith) in
    let first : a + 0 ≡ a = omega arith in
    let other : b + 0 ≡ b = omega arith in
    let rest = shifted f g (a + 1) (b + 1) n (λ k low. (let at : a + suc k ≡ a + 1 + k = omega arith in let there : b + suc k ≡ b + 1 + k = omega arith in rw (at, there) at (each (suc k) (omega (arith, low))))) in
    let same : f a ≡ g b = rw (first, other) at here in
    omega (arith, same, rest, sum_by-cons f a (range_with_len (a + 1) n), sum_by-cons g b (range_with_len (b + 1) n))

-- some days, and the days after them
run_then_rest : (f : ℕ → ℕ) (a m k b n : ℕ) → k ≡ m + n → b ≡ a + m → sum_by f (range_with_len a k) ≡ sum_by f (range_with_len a m) + sum_by f (range_with_len b n)
run_then_rest f a zero k b n all next = (let rest : k ≡ n = omega arith in let from : b ≡ a = omega arith in rw (rest, from) (omega arith))
run_then_rest f a (suc m) zero b n all next = absurd (omega arith)
run_then_rest f a (suc m) (suc k) b n all next =
    omega (arith, run_then_rest f (a + 1) m k b n (omega arith) (omega arith), sum_by-cons f a (range_with_len (a + 1) m), sum_by-cons f a (range_with_len (a + 1) k))

module _ (old new : List Record) (month : ℕ) where
  -- what runs come to together
  abbrev pub differences : List (Stretch Change) → ℤ
  differences [] = pos 0
  differences (run ∷ runs) = difference old new month run +ℤ differences runs

  -- runs that cover some days come to the shares of these days by the new records, less those by the old ones
  covered_come_to : (first next count : ℕ) (runs : List (Stretch Change)) → next ≡ first + count → CoverLongest (change_on old new) first next runs →
      differences runs ≡ pos (sum_by (share_on new month) (range_with_len first count)) -ℤ pos (sum_by (share_on old month) (range_with_len first count))
  covered_come_to first next count [] ends covers = (let none : count ≡ 0 = omega arith in rw none (omega (arith, ints)))
  covered_come_to first next count (run ∷ rest) ends covers =
      let few = cover_few (change_on old new) (run.last + 1) next rest covers.4 in
      let others = covered_come_to (run.last + 1) next (next - (run.last + 1)) rest (omega arith) covers.4 in
      let shares = λ (f : ℕ → ℕ). run_then_rest f first (run.last + 1 - first) count (run.last + 1) (next - (run.last + 1)) (omega arith) (omega arith) in
      let by_new = shares (share_on new month) in
      let by_old = shares (share_on old month) in
      rw covers.0 (omega (arith, ints))

  -- so the changes of a month come to what is certified now, less what was certified before
  pub changes_come_to : differences (changes old new month) ≡ pos (certified_amount new month) -ℤ pos (certified_amount old month)
  changes_come_to = covered_come_to (first_of month) (last_of month + 1) (last_of month + 1 - first_of month) (changes old new month) (omega (arith, cover_few (change_on old new) (first_of month) (last_of month + 1) (changes old new month) (month_covered old new month))) (month_covered old new month)

-- where the same assistance stands on each day, the same is certified for the days
pub certified_alike : (old new : List Record) (month first last : ℕ) → ((day : ℕ) → first ≤ day → day ≤ last → assistance_on old day ≡ assistance_on new day) →
    certified_on old month first last ≡ certified_on new month first last
certified_alike old new month first last alike =
    shifted (share_on old month) (share_on new month) first first (last + 1 - first)
    (λ k low. ap (λ (amount : ℕ). day_share amount (first + k + 1 - first_of month) (days_in month)) (alike (first + k) (omega arith) (omega (arith, low))))
