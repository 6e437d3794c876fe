-- What lines pay for a household and month.
use Rattle.voucher_core.proofs.Words.{◌≡◌, ◌≢◌, ℕ, zero, suc, ◌+◌, ◌<◌, List, [], ◌∷◌, ◌++◌, length, take, pos, ◌+ℤ◌, ◌-ℤ◌, true, false, refl, ap, ◌∙◌, arith, All, get_or, filter, map, not, nat_le, nat_lt, ◌&&◌, if◌then◌else◌, range_with_len, flat_map, int_eq, ints, ne_eqb, eq-eqb, and_right, nat_tests, take_more, Decides-int_eq, filter-append, All-head, All-tail, All-filter, All-map, All-nil, All-cons, filter_passes, Record, Stretch, Change, Closing, Line, changes, difference, line_of, month_lines, placed, is_for, total, paid, certified_amount, PaidIsTheSum, filter_none, common_steps}
use Rattle.voucher_core.proofs.DayShares.{differences, changes_come_to}

total-append : (xs ys : List Line) → total (xs ++ ys) ≡ total xs +ℤ total ys
total-append [] ys = omega (arith, ints)
total-append (l ∷ xs) ys = omega (arith, ints, total-append xs ys)

-- one line more of all
pub total-more : (lines : List Line) (i : ℕ) (l : Line) → i < length lines → l ≡ get_or lines i l → total (take (i + 1) lines) ≡ total (take i lines) +ℤ l.amount
total-more lines i l within is =
    rw (take_more lines i l within, ← is) (omega (arith, ints, total-append (take i lines) (l ∷ [])))

module _ (household month : ℕ) where
  -- lines after others add what they pay
  pub paid-append : (xs ys : List Line) → paid household month (xs ++ ys) ≡ paid household month xs +ℤ paid household month ys
  paid-append xs ys = rw filter-append (total-append (filter (is_for household month) xs) (filter (is_for household month) ys))

  -- one line more
  pub paid-more : (lines : List Line) (i : ℕ) (l : Line) → i < length lines → l ≡ get_or lines i l →
      paid household month (take (i + 1) lines) ≡ paid household month (take i lines) +ℤ (if is_for household month l then l.amount else pos 0)
  paid-more lines i l within is =
      rw (take_more lines i l within, ← is) (grind (arith, ints, common_steps, paid-append (take i lines) (l ∷ [])))

  -- places change nothing of it
  pub paid-placed : (place : ℕ) (lines : List Line) → paid household month (placed place lines) ≡ paid household month lines
  paid-placed place [] = refl
  paid-placed place (l ∷ lines) = grind (arith, common_steps, paid-placed (place + 1) lines)

  -- lines that are all for others pay nothing
  paid_none : (lines : List Line) → All (λ l. is_for household month l ≡ false) lines → paid household month lines ≡ pos 0
  paid_none lines all = ap total (filter_none (is_for household month) lines all)

  -- and so are those for other months
  pub paid_elsewhere : (lines : List Line) → All (λ l. l.for_month ≢ month) lines → paid household month lines ≡ pos 0
  paid_elsewhere lines all = paid_none lines (λ k d within. and_right _ _ (ne_eqb _ month (all k d within)))

  -- of pieces of which only one pays anything, that one pays it, where it is among them
  pub paid_by_one : (f : ℕ → List Line) (a n j : ℕ) → ((k : ℕ) → k ≢ j → paid household month (f k) ≡ pos 0) →
      paid household month (flat_map f (range_with_len a n)) ≡ (if nat_le a j && nat_lt j (a + n) then paid household month (f j) else pos 0)
  paid_by_one f a zero j others = grind (arith, nat_tests)
  paid_by_one f a (suc n) j others = grind (arith, ints, nat_tests, paid-append (f a) (flat_map f (range_with_len (a + 1) n)), others a, paid_by_one f (a + 1) n j others)

-- a line that is for them pays its amount, also where it is left out since it is for 0
pays_its_own : (household month : ℕ) (l : Line) (lines : List Line) → is_for household month l ≡ true →
    paid household month (if not (int_eq l.amount (pos 0)) then l ∷ lines else lines) ≡ l.amount +ℤ paid household month lines
pays_its_own household month l lines own = grind (arith, ints, common_steps, Decides-int_eq l.amount (pos 0))

-- the lines of a household and month pay its changes there
of_runs : (closing : Closing) (household month : ℕ) (old new : List Record) (runs : List (Stretch Change)) →
    paid household month (filter (λ l. not (int_eq l.amount (pos 0))) (map (line_of closing household month old new) runs)) ≡ differences old new month runs
of_runs closing household month old new [] = refl
of_runs closing household month old new (run ∷ runs) =
    pays_its_own household month (line_of closing household month old new run) _ (rw (eq-eqb household household refl, eq-eqb month month refl))
    ∙ ap (λ rest. difference old new month run +ℤ rest) (of_runs closing household month old new runs)

-- the lines of a month for a household
pub paid_month : (closing : Closing) (household month : ℕ) (old new : List Record) →
    paid household month (month_lines closing household month old new) ≡ pos (certified_amount new month) -ℤ pos (certified_amount old month)
paid_month closing household month old new = of_runs closing household month old new (changes old new month) ∙ changes_come_to old new month

module _ (P : Line → Type 0) where
  -- what is true of each line of a month, where it need be true only of those that aren't for 0
  pub each_passing : (closing : Closing) (household month : ℕ) (old new : List Record) →
      All (λ run. not (int_eq (difference old new month run) (pos 0)) ≡ true → P (line_of closing household month old new run)) (changes old new month) →
      All P (month_lines closing household month old new)
  each_passing closing household month old new each = λ k d within.
      (All-filter (λ (l : Line). not (int_eq l.amount (pos 0))) (λ (l : Line). not (int_eq l.amount (pos 0)) ≡ true → P l)
      (map (line_of closing household month old new) (changes old new month))
      (All-map (λ (l : Line). not (int_eq l.amount (pos 0)) ≡ true → P l) (line_of closing household month old new) (changes old new month) each) k d within
      (filter_passes (λ (l : Line). not (int_eq l.amount (pos 0))) (map (line_of closing household month old new) (changes old new month)) k d within))

  pub each_line : (closing : Closing) (household month : ℕ) (old new : List Record) → ((run : Stretch Change) → P (line_of closing household month old new run)) →
      All P (month_lines closing household month old new)
  each_line closing household month old new each = each_passing closing household month old new (λ k d within passes. each (get_or (changes old new month) k d))

  -- what is true of a line at each place is true of lines with their places
  pub all_placed : ((l : Line) (place : ℕ) → P l → P (record l { place = place })) → (place : ℕ) (lines : List Line) → All P lines → All P (placed place lines)
  all_placed moves place [] all = All-nil P
  all_placed moves place (l ∷ lines) all =
      All-cons P (record l { place = place }) (placed (place + 1) lines) (moves l place (All-head P l lines all))
      (all_placed moves (place + 1) lines (All-tail P l lines all))

-- they pay other households nothing
pub paid_other : (closing : Closing) (household other month : ℕ) (old new : List Record) → household ≢ other →
    paid other month (month_lines closing household month old new) ≡ pos 0
paid_other closing household other month old new apart =
    paid_none other month _ (each_line (λ (l : Line). is_for other month l ≡ false) closing household month old new (λ run. rw (ne_eqb household other apart) refl))

pub paid_is_the_sum : PaidIsTheSum
paid_is_the_sum = record {
  of_none = λ household month. refl;
  of_its_own = λ lines l. rw paid-append (rw (eq-eqb l.household l.household refl, eq-eqb l.for_month l.for_month refl) (omega (arith, ints)));
  of_others = λ household month lines l other. rw paid-append (grind (arith, ints, common_steps, nat_tests, other));
}
