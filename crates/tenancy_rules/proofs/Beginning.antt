-- The first day that passes is found among the days on which records begin.
use Rattle.tenancy_rules.proofs.Words.{◌≡◌, ◌∙◌, sym, refl, ℕ, ◌<◌, Bool, true, false, List, [], ◌∷◌, Option, Some, None, arith, ◌&&◌, nat_lt, map, filter, fold, Contains, IfSome, IsSomeAnd, if◌then◌else◌, and_parts, nat_tests, All-contains, later, is_within, ChangesAtBeginnings, latest-is, first_day-is, earliest_order, Record, first_day_before, sooner_beginning, common_steps, cond_both}
use Rattle.row_choice.specs.FirstDay.{earliest}

-- the earlier of a day so far and another
abbrev sooner_day : Option ℕ → ℕ → Option ℕ
sooner_day = later (λ day other. nat_lt other day)

-- nothing comes before the first day of all
fold_zero : (days : List ℕ) → fold sooner_day (Some 0) days ≡ Some 0
fold_zero [] = refl
fold_zero (day ∷ days) = grind (arith, nat_tests, common_steps, fold_zero days)

-- where the first day of all is among the days it is the earliest
zero_first : (passes : ℕ → Bool) (days : List ℕ) → passes 0 ≡ true → Contains days 0 → earliest (filter passes days) ≡ Some 0
zero_first passes days passed among =
    let law = latest-is (λ day other. nat_lt other day) passes days earliest_order in
    by_answer (earliest (filter passes days)) (All-contains (λ day. passes day ≡ true → IsSomeAnd (earliest (filter passes days)) (λ best. nat_lt day best ≡ false)) days 0 law.last among passed)
  where
    by_answer : (answer : Option ℕ) → IsSomeAnd answer (λ best. nat_lt 0 best ≡ false) → answer ≡ Some 0
    by_answer answer is = grind (arith, nat_tests, common_steps)

-- the first day of all is no candidate of its own
without_zero : (passes : ℕ → Bool) (days : List ℕ) → (passes 0 ≡ true → Contains days 0) → earliest (filter passes (0 ∷ days)) ≡ earliest (filter passes days)
without_zero passes days among =
    cond_both (passes 0) _ _ (λ kept. earliest kept ≡ earliest (filter passes days))
    (λ is. fold_zero (filter passes days) ∙ sym (zero_first passes days is (among is))) (λ _. refl)

module _ (passes : ℕ → Bool) (end : ℕ) where
  abbrev counts : ℕ → Bool
  counts day = is_within 0 end day && passes day

  -- the step of the search takes the earlier of two days that count, and so comes before the end
  sooner_is : (first : Option ℕ) (r : Record) → IfSome first (λ day. day < end) →
      sooner_beginning passes end first r ≡ (if counts r.from then sooner_day first r.from else first)
  sooner_is first r before = grind (arith, nat_tests, common_steps)

  before_end : (first : Option ℕ) (r : Record) → IfSome first (λ day. day < end) → IfSome (sooner_beginning passes end first r) (λ day. day < end)
  before_end first r before = grind (arith, nat_tests, common_steps)

  -- each step of the search takes the earlier of two days that count
  fold_sooner : (first : Option ℕ) (records : List Record) → IfSome first (λ day. day < end) →
      fold (sooner_beginning passes end) first records ≡ fold sooner_day first (filter counts (map (λ r. r.from) records))
  fold_sooner first [] before = refl
  fold_sooner first (r ∷ records) before =
      grind (arith, common_steps, sooner_is first r before, fold_sooner (sooner_beginning passes end first r) records (before_end first r before))

  -- where the test changes only as records begin, and passes on the first day of all only as one begins
  pub first_beginning-is : (records : List Record) → ChangesAtBeginnings passes (map (λ r. r.from) records) →
      (passes 0 ≡ true → Contains (map (λ r. r.from) records) 0) →
      fold (sooner_beginning passes end) None records ≡ first_day_before end passes
  unfolding first_day_before
  first_beginning-is records changes among =
      let days : List ℕ = map (λ (r : Record). r.from) records in
      fold_sooner None records tt
      ∙ sym (without_zero counts days (λ is. among (and_parts (is_within 0 end 0) (passes 0) is).1))
      ∙ sym (first_day-is passes days 0 end changes)
