-- The sums of facts that break no rule fit their types.
use Rattle.income_rules.proofs.Words.{◌≡◌, ℕ, ◌+◌, ◌≤◌, max, mul-le-mul_left, true, Bool, cond, List, [], ◌∷◌, length, Option, None, arith, ◌==◌, ◌&&◌, if◌then◌else◌, sum_by, slice_get, nat_lt, range_with_len, sum_by-cons, sum_by-le-sum_by, leb-true, Member, Income, Asset, Disposal, Facts, is_amount, broken_rule, is_earned, is_adoption, is_counted_whole, sum_of, counted_of_earnings, counted_of_others, counted_earned_of, counted_unearned_of, window_start, is_between, given_away_of, net_assets_of, imputed_asset_income, asset_income_of, list_all, common_steps, nat_tests, sum_by-le, option_map_or, IncomeKind, annual_income_of}
use Rattle.income_rules.proofs.Kept.{keeps, is_short, amounts_hold}
use Rattle.income_rules.proofs.Sums.{sum_by-bounded, sum_by-filter-le, sum_by-add, cond-le, only_once}

-- ---- the lists of the facts

abbrev pub incomes_sum : List Income → ℕ
incomes_sum incomes = sum_by (λ income. income.annual) incomes

-- amounts that a test bounds, in a list that is short
amounts_fit : {X : Type 0} (amount : X → ℕ) (fits : X → Bool) (xs : List X) → ((x : X) → fits x ≡ true → amount x ≤ 9999999) →
    list_all fits xs ≡ true → length xs ≤ 40 → sum_by amount xs ≤ 399999960
amounts_fit amount fits xs bound all short = omega (arith, sum_by-bounded amount fits 9999999 bound xs all, short)

-- so do the sums of facts that break no rule
pub record SumsFit (facts : Facts) : Type 0 where
  pub incomes : incomes_sum facts.incomes ≤ 399999960
  pub asset_values : sum_by (λ asset. asset.value) facts.assets ≤ 399999960
  pub asset_incomes : sum_by (λ asset. asset.income) facts.assets ≤ 399999960
  pub disposal_values : sum_by (λ disposal. disposal.value) facts.disposals ≤ 399999960
  pub disposal_receipts : sum_by (λ disposal. disposal.received) facts.disposals ≤ 399999960

pub sums_fit : (facts : Facts) (day : ℕ) → broken_rule facts day ≡ None → SumsFit facts
sums_fit facts day e =
    let kept = keeps facts day e in
    let amounts = amounts_hold facts kept.amounts in
    let short = is_short facts kept.size in
    let asset_fits : Asset → Bool = λ asset. is_amount asset.value && is_amount asset.income in
    let disposal_fits : Disposal → Bool = λ disposal. is_amount disposal.value && is_amount disposal.received in
    record {
      incomes = amounts_fit _ (λ (income : Income). is_amount income.annual) facts.incomes (λ income fits. leb-true _ _ fits) amounts.incomes short.incomes;
      asset_values = amounts_fit _ asset_fits facts.assets (λ asset fits. grind (arith, nat_tests)) amounts.assets short.assets;
      asset_incomes = amounts_fit _ asset_fits facts.assets (λ asset fits. grind (arith, nat_tests)) amounts.assets short.assets;
      disposal_values = amounts_fit _ disposal_fits facts.disposals (λ disposal fits. grind (arith, nat_tests)) amounts.disposals short.disposals;
      disposal_receipts = amounts_fit _ disposal_fits facts.disposals (λ disposal fits. grind (arith, nat_tests)) amounts.disposals short.disposals;
    }

-- ---- the incomes of one member

pub sum_of-le : (is_such : IncomeKind → Bool) (incomes : List Income) (number : ℕ) → sum_of is_such incomes number ≤ incomes_sum incomes
sum_of-le is_such incomes number =
    sum_by-filter-le (λ (income : Income). income.annual) (λ income. income.member == number && is_such income.kind) incomes

-- all that the member has, of any kind
abbrev pub total_for : List Income → ℕ → ℕ
total_for incomes number = sum_by (λ income. cond (income.member == number) income.annual 0) incomes

-- an income is of one kind
pub kinds_within : (incomes : List Income) (number : ℕ) → sum_of is_earned incomes number + (sum_of is_counted_whole incomes number + sum_of is_adoption incomes number) ≤ total_for incomes number
kinds_within [] number = omega arith
kinds_within (income ∷ incomes) number = grind (arith, common_steps, kinds_within incomes number)

-- ---- the incomes of all members

-- each income is one member's
pub numbers_within : (incomes : List Income) (k : ℕ) → sum_by (total_for incomes) (range_with_len 0 k) ≤ incomes_sum incomes
numbers_within [] k = omega (arith, sum_by-le (total_for []) 0 (range_with_len 0 k) (λ i d within. omega arith))
numbers_within (income ∷ incomes) k =
    let first : ℕ → ℕ = λ n. cond (income.member == n) income.annual 0 in
    let each = λ (n : ℕ). sum_by-cons (λ (i : Income). cond (i.member == n) i.annual 0) income incomes in
    let all = sum_by-le-sum_by (total_for (income ∷ incomes)) (λ n. first n + total_for incomes n) (range_with_len 0 k) (λ n. omega (arith, each n)) in
    let once = only_once income.member income.annual 0 k in
    let others = numbers_within incomes k in
    omega (arith, sum_by-add first (total_for incomes) (range_with_len 0 k), sum_by-cons (λ (i : Income). i.annual) income incomes)

-- what is counted of earnings is at most all
earned_part : (o : Option Member) (day earnings : ℕ) → option_map_or (λ member. counted_of_earnings member day earnings) o 0 ≤ earnings
earned_part o day earnings = grind (arith, common_steps)

others_part : (o : Option Member) (whole adoption : ℕ) → option_map_or (λ member. counted_of_others member whole adoption) o 0 ≤ whole + adoption
others_part o whole adoption = grind (arith, common_steps)

pub counted_within : (facts : Facts) (day number : ℕ) → counted_earned_of facts number day + counted_unearned_of facts number ≤ total_for facts.incomes number
counted_within facts day number =
    let earned = earned_part (slice_get facts.members number) day (sum_of is_earned facts.incomes number) in
    let others = others_part (slice_get facts.members number) (sum_of is_counted_whole facts.incomes number) (sum_of is_adoption facts.incomes number) in
    omega (arith, kinds_within facts.incomes number)

-- what is counted of the incomes of the first members
pub family_within : (facts : Facts) (day k : ℕ) → broken_rule facts day ≡ None → sum_by (λ number. counted_earned_of facts number day) (range_with_len 0 k) + sum_by (counted_unearned_of facts) (range_with_len 0 k) ≤ 399999960
family_within facts day k e =
    let earned : ℕ → ℕ = λ number. counted_earned_of facts number day in
    let unearned : ℕ → ℕ = counted_unearned_of facts in
    let counted = sum_by-le-sum_by (λ number. earned number + unearned number) (total_for facts.incomes) (range_with_len 0 k) (counted_within facts day) in
    omega (arith, sum_by-add earned unearned (range_with_len 0 k), numbers_within facts.incomes k, (sums_fit facts day e).incomes)

pub whole_and_adoption_fit : (facts : Facts) (day number : ℕ) → broken_rule facts day ≡ None → sum_of is_counted_whole facts.incomes number + sum_of is_adoption facts.incomes number ≤ 399999960
whole_and_adoption_fit facts day number e =
    let all = sum_by-le-sum_by (λ (income : Income). cond (income.member == number) income.annual 0) (λ income. income.annual) facts.incomes (λ income. cond-le (income.member == number) income.annual) in
    omega (arith, kinds_within facts.incomes number, (sums_fit facts day e).incomes)

-- ---- assets

pub net_assets_fit : (facts : Facts) (day : ℕ) → broken_rule facts day ≡ None → net_assets_of facts day ≤ 799999920
net_assets_fit facts day e =
    let fit = sums_fit facts day e in
    let counted = cond-le (nat_lt 1000 (given_away_of facts.disposals day)) (given_away_of facts.disposals day) in
    omega (arith, sum_by-filter-le (λ (disposal : Disposal). disposal.value) (is_between (window_start day) day) facts.disposals)

-- at most the whole of the net assets is imputed
imputed-le : (net passbook : ℕ) → passbook ≤ 10000 → imputed_asset_income net passbook ≤ net
imputed-le net passbook le = omega (arith, mul-le-mul_left net le)

greater-le : (above : Bool) (actual imputed most : ℕ) → actual ≤ most → imputed ≤ most → (if above then max actual imputed else actual) ≤ most
greater-le above actual imputed most a i = grind (arith, common_steps, a, i)

pub asset_income_fits : (facts : Facts) (day passbook : ℕ) → broken_rule facts day ≡ None → passbook ≤ 10000 → asset_income_of facts day passbook ≤ 799999920
asset_income_fits facts day passbook e le =
    greater-le (nat_lt 5000 (net_assets_of facts day)) _ _ 799999920 (omega (arith, (sums_fit facts day e).asset_incomes))
    (omega (arith, imputed-le (net_assets_of facts day) passbook le, net_assets_fit facts day e))

-- ---- the whole

pub annual_income_fits : (facts : Facts) (day passbook : ℕ) → broken_rule facts day ≡ None → passbook ≤ 10000 → (annual_income_of facts day passbook).total ≤ 1300000000
annual_income_fits facts day passbook e le =
    omega (arith, family_within facts day (length facts.members) e, asset_income_fits facts day passbook e le)
