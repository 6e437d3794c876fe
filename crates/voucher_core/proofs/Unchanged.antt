-- A household with no new record has no changes, so it adds no lines.
use Rattle.voucher_core.proofs.Words.{◌≡◌, ℕ, suc, ◌+◌, ◌-◌, ◌≤◌, List, [], ◌∷◌, ◌++◌, Bool, true, false, pos, refl, ap, ◌∙◌, arith, ints, All, All-nil, All-cons, All-head, All-tail, filter, map, not, max, fold, nat_le, nat_lt, if◌then◌else◌, flat_map, range_with_len, int_eq, ltb-false, le-leb, Decides-int_eq, filter-append, filter_all, common_steps, Record, Stretch, as_of, newest_act, Change, Closing, Line, certified_on, changes, difference, line_of, month_lines, known_as_of, lines_for, changed_since, range_more}

-- items that give nothing can be left out
flat_map-filter : {X A : Type 0} (f : X → List A) (p : X → Bool) (xs : List X) → ((x : X) → p x ≡ false → f x ≡ []) → flat_map f (filter p xs) ≡ flat_map f xs
flat_map-filter f p [] none = refl
flat_map-filter f p (x ∷ xs) none = by_test (p x) refl (flat_map-filter f p xs none)
  where
    by_test : (test : Bool) → p x ≡ test → flat_map f (filter p xs) ≡ flat_map f xs →
        flat_map f (if test then x ∷ filter p xs else filter p xs) ≡ f x ++ flat_map f xs
    by_test true e rest = ap (λ (ys : List _). f x ++ ys) rest
    by_test false e rest = rw (none x e) rest

-- what the greatest act is no later than, none is later than
by_greatest : (act most : ℕ) (records : List Record) → fold (λ most r. max most r.act) most records ≤ act → (most ≤ act) × All (λ r. r.act ≤ act) records
by_greatest act most [] within = (within, All-nil (λ (r : Record). r.act ≤ act))
by_greatest act most (r ∷ rs) within =
    let rest = by_greatest act (max most r.act) rs within in
    (omega (arith, rest.0), All-cons (λ (q : Record). q.act ≤ act) r rs (omega (arith, rest.0)) rest.1)

pub all_known : (act : ℕ) (records : List Record) → newest_act records ≤ act → as_of act records ≡ records
all_known act records newest =
    filter_all (λ (r : Record). nat_le r.act act) records (λ k d within. le-leb _ act ((by_greatest act 0 records newest).1 k d within))

-- what is certified for the run is the same by the old records as by the new ones
abbrev pub IsUnchanged : List Record → List Record → ℕ → Stretch Change → Type 0
IsUnchanged old new month run = certified_on old month run.first run.last ≡ certified_on new month run.first run.last

module _ (closing : Closing) (household month : ℕ) where
  pub no_line : (old new : List Record) (runs : List (Stretch Change)) → All (IsUnchanged old new month) runs →
      filter (λ l. not (int_eq l.amount (pos 0))) (map (line_of closing household month old new) runs) ≡ []
  no_line old new [] all = refl
  no_line old new (run ∷ runs) all =
      let same : IsUnchanged old new month run = All-head (IsUnchanged old new month) run runs all in
      let none : difference old new month run ≡ pos 0 = omega (arith, ints, same) in
      let zero : int_eq (difference old new month run) (pos 0) ≡ true = (Decides-int_eq (difference old new month run) (pos 0)).1 none in
      rw zero (no_line old new runs (All-tail (IsUnchanged old new month) run runs all))

  none_of_same : (records : List Record) → month_lines closing household month records records ≡ []
  none_of_same records = no_line records records (changes records records month) (λ k d within. refl)

-- so the households with new records have all lines
pub all_of_changed : (own : ℕ → List Record) (count : ℕ) (closing : Closing) (month : ℕ) → closing.last_close ≤ closing.act →
    flat_map (λ h. month_lines closing h month (known_as_of own closing.last_close h) (known_as_of own closing.act h)) (changed_since closing.last_close own count)
    ≡ lines_for (known_as_of own closing.last_close) (known_as_of own closing.act) count closing month
all_of_changed own count closing month order =
    flat_map-filter of_household (λ (h : ℕ). nat_lt closing.last_close (newest_act (own h))) (range_with_len 1 count)
    (λ h test. none h (ltb-false closing.last_close (newest_act (own h)) test))
  where
    of_household : ℕ → List Line
    of_household h = month_lines closing h month (known_as_of own closing.last_close h) (known_as_of own closing.act h)

    none : (h : ℕ) → newest_act (own h) ≤ closing.last_close → month_lines closing h month (known_as_of own closing.last_close h) (known_as_of own closing.act h) ≡ []
    none h newest = rw (all_known closing.last_close (own h) newest, all_known closing.act (own h) (omega arith)) (none_of_same closing h month (own h))

-- one household more, where it passes and where it doesn't
filtered-one_more : (p : ℕ → Bool) (k : ℕ) → 1 ≤ k → filter p (range_with_len 1 (k + 1 - 1)) ≡ filter p (range_with_len 1 (k - 1)) ++ (if p k then k ∷ [] else [])
filtered-one_more p k low =
    let count : k + 1 - 1 ≡ suc (k - 1) = omega arith in
    ap (λ (n : ℕ). filter p (range_with_len 1 n)) count
    ∙ ap (filter p) (range_more 1 (k - 1) k (omega arith))
    ∙ filter-append p (range_with_len 1 (k - 1)) (k ∷ [])

pub filtered-in : (p : ℕ → Bool) (k : ℕ) (xs new : List ℕ) → 1 ≤ k → p k ≡ true → new ≡ xs ++ k ∷ [] → xs ≡ filter p (range_with_len 1 (k - 1)) →
    new ≡ filter p (range_with_len 1 (k + 1 - 1))
filtered-in p k xs new low e more is = grind (arith, common_steps, filtered-one_more p k low)

pub filtered-out : (p : ℕ → Bool) (k : ℕ) (xs new : List ℕ) → 1 ≤ k → p k ≡ false → new ≡ xs → xs ≡ filter p (range_with_len 1 (k - 1)) →
    new ≡ filter p (range_with_len 1 (k + 1 - 1))
filtered-out p k xs new low e same is = grind (arith, common_steps, filtered-one_more p k low)
