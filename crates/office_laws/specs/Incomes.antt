-- The annual income that a record certifies, as sums over the lists of its facts (24 CFR 5.609).
use Rattle.std.specs.Prelude.{◌≡◌, ◌≤◌, ◌<◌, ◌+◌, ◌-◌, ◌*◌, ◌&&◌, max, ℕ, Bool, filter, sum_by, unwrap_or}
use Rattle.days_core.specs.Calendar.{years_before}
use Rattle.facts_core.specs.declared.{members.Member.Member, property.Disposal.Disposal, facts.Facts.Facts}
use Rattle.income_rules.specs.WholeList.{Tells, TestsAreThere, passes, total_of, capped_total_of}

-- the disposal was in the two years before the day, both days counted (own rule)
abbrev pub IsRecent : ℕ → Disposal → Type 0
IsRecent day disposal = (unwrap_or (years_before day 2) 0 ≤ disposal.day) × (disposal.day ≤ day)

-- net assets: what the assets are worth, and how much less than their value those disposals brought in together, where
-- that is more than 1,000 (24 CFR 5.603(b))
pub record AreNetAssets (facts : Facts) (day net : ℕ) : Type 0 where
  pub recent : Disposal → Bool
  pub tells : Tells recent (IsRecent day)
  pub given_away : ℕ
  pub is : given_away ≡ sum_by (λ disposal. disposal.value) (filter recent facts.disposals) - sum_by (λ disposal. disposal.received) (filter recent facts.disposals)
  pub few : given_away ≤ 1000 → net ≡ sum_by (λ asset. asset.value) facts.assets
  pub many : 1000 < given_away → net ≡ sum_by (λ asset. asset.value) facts.assets + given_away

-- income from assets: what they yield, and of net assets above 5,000 what these would yield by the passbook rate, in
-- hundredths of a percent, where that is more (24 CFR 5.609(b)(3); half a dollar is rounded up, an own rule)
pub record IsAssetIncome (facts : Facts) (day passbook income : ℕ) : Type 0 where
  pub net : ℕ
  pub assets : AreNetAssets facts day net
  pub imputed : ℕ
  pub by_rate : 10000 * imputed ≤ net * passbook + 5000
  pub to_the_dollar : net * passbook + 5000 < 10000 * (imputed + 1)
  pub few : net ≤ 5000 → income ≡ sum_by (λ asset. asset.income) facts.assets
  pub many : 5000 < net → income ≡ max (sum_by (λ asset. asset.income) facts.assets) imputed

-- Earned income: the earnings that are counted whole, and up to 480 of each adult student's. The tests tell which those
-- are (24 CFR 5.609(b)(1), (2), (c)(1), (5), (11)).
pub record IsEarnedIncome (facts : Facts) (day earned : ℕ) : Type 0 where
  pub tests : TestsAreThere day
  pub is : earned
      ≡ total_of facts (λ income. tests.earning.0 income.kind && passes facts tests.whole.0 income.member)
      + capped_total_of facts tests.student.0 tests.earning.0

-- the facts with the incomes of such members alone
abbrev pub only_of : (Member → Bool) → Facts → Facts
only_of such facts = record facts { incomes = filter (λ income. passes facts such income.member) facts.incomes }

-- Annual income: earned income; the family's other incomes, and up to 480 of the adoption assistance for each child, which
-- the tests tell; and the income from assets.
pub record IsAnnualIncome (facts : Facts) (day passbook annual : ℕ) : Type 0 where
  pub earned : ℕ
  pub of_earned : IsEarnedIncome facts day earned
  pub tests : TestsAreThere day
  pub assets : ℕ
  pub of_assets : IsAssetIncome facts day passbook assets
  pub is : annual
      ≡ earned
      + (total_of facts (λ income. tests.other.0 income.kind && passes facts tests.family.0 income.member) + capped_total_of facts tests.family.0 tests.adoption.0)
      + assets
