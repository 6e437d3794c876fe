-- The annual income is that of the facts.
use Rattle.std.proofs.Common.{◌≡◌, ap, refl, ℕ, zero, suc, ◌+◌, ◌*◌, ◌<◌, ◌≤◌, max, arith, Bool, true, None, List, [], ◌∷◌, length, nat_le, if◌then◌else◌}
use Rattle.std.specs.Prelude.{nat_lt, sum_by, All}
use Rattle.std.specs.List.{list_all}
use Rattle.std.proofs.lemmas.{Bool.leb-true, Bool.le-leb, Bool.ltb-true, Bool.and_parts, Bool.and_from, Bool.Decides.nat_tests, Grind.common_steps}
use Rattle.list_laws.proofs.Options.{unless_none}
use Rattle.days_core.specs.Rounding.{round_half_up}
use Rattle.facts_core.specs.{declared.facts.Facts.Facts, Rules.broken_rule, Rules.has_one_head, Rules.has_at_most_one_partner, Rules.names_members}
use Rattle.income_rules.specs.{Annual.annual_income_of, Income.earned_of, WholeList.NameMembers, WholeList.TestsAreThere}
use Rattle.income_rules.specs.Assets.{window_start, is_between, given_away_of, net_assets_of, actual_asset_income_of, imputed_asset_income, asset_income_of}
use Rattle.income_rules.proofs.WholeListLaw.{unearned_is_of_whole_list, tests_exist}
use Rattle.office_laws.proofs.CertifiedEarnings.{earned_income}
use Rattle.office_laws.specs.Incomes.{AreNetAssets, IsAssetIncome, IsAnnualIncome}

to_nearest : (x : ℕ) → (10000 * round_half_up x 10000 ≤ x + 5000) × (x + 5000 < 10000 * (round_half_up x 10000 + 1))
to_nearest x = (omega arith, omega arith)

few_given : (worth given : ℕ) → given ≤ 1000 → worth + (if nat_lt 1000 given then given else 0) ≡ worth
few_given worth given few = grind (arith, common_steps, nat_tests, few)

many_given : (worth given : ℕ) → 1000 < given → worth + (if nat_lt 1000 given then given else 0) ≡ worth + given
many_given worth given many = grind (arith, common_steps, nat_tests, many)

few_assets : (actual imputed net : ℕ) → net ≤ 5000 → (if nat_lt 5000 net then max actual imputed else actual) ≡ actual
few_assets actual imputed net few = grind (arith, common_steps, nat_tests, few)

many_assets : (actual imputed net : ℕ) → 5000 < net → (if nat_lt 5000 net then max actual imputed else actual) ≡ max actual imputed
many_assets actual imputed net many = grind (arith, common_steps, nat_tests, many)

all_each : {X : Type 0} (p : X → Bool) (P : X → Type 0) → ((x : X) → p x ≡ true → P x) → (xs : List X) → list_all p xs ≡ true → All P xs
all_each p P gives [] is k d within = absurd (omega (arith, within))
all_each p P gives (x ∷ xs) is zero d within = gives x (and_parts (p x) (list_all p xs) is).0
all_each p P gives (x ∷ xs) is (suc k) d within = all_each p P gives xs (and_parts (p x) (list_all p xs) is).1 k d (omega (arith, within))

module _ (facts : Facts) (day : ℕ) where
  net_assets : AreNetAssets facts day (net_assets_of facts day)
  net_assets = record {
    recent = is_between (window_start day) day;
    tells = λ disposal. (
      λ is. (let parts = and_parts (nat_le (window_start day) disposal.day) (nat_le disposal.day day) is in (leb-true (window_start day) disposal.day parts.0, leb-true disposal.day day parts.1)),
      λ both. and_from (nat_le (window_start day) disposal.day) (nat_le disposal.day day) (le-leb (window_start day) disposal.day both.0) (le-leb disposal.day day both.1),
    );
    given_away = given_away_of facts.disposals day;
    is = refl;
    few = few_given (sum_by (λ asset. asset.value) facts.assets) (given_away_of facts.disposals day);
    many = many_given (sum_by (λ asset. asset.value) facts.assets) (given_away_of facts.disposals day);
  }

  asset_income : (passbook : ℕ) → IsAssetIncome facts day passbook (asset_income_of facts day passbook)
  asset_income passbook =
      let net : ℕ = net_assets_of facts day in
      let nearest = to_nearest (net * passbook) in record {
        net = net;
        assets = net_assets;
        imputed = imputed_asset_income net passbook;
        by_rate = nearest.0;
        to_the_dollar = nearest.1;
        few = few_assets (actual_asset_income_of facts) (imputed_asset_income net passbook) net;
        many = many_assets (actual_asset_income_of facts) (imputed_asset_income net passbook) net;
      }

  -- where no rule is broken, each income names a member
  pub named : broken_rule facts day ≡ None → NameMembers facts
  named kept =
      let one = unless_none (has_one_head facts) 1 _ kept in
      let two = unless_none (has_at_most_one_partner facts) 2 _ one.1 in
      let three = unless_none (names_members facts) 3 _ two.1 in
      all_each (λ income. nat_lt income.member (length facts.members)) (λ income. income.member < length facts.members)
      (λ income is. ltb-true income.member (length facts.members) is) facts.incomes three.0

  pub annual_income : (passbook : ℕ) → broken_rule facts day ≡ None → IsAnnualIncome facts day passbook (annual_income_of facts day passbook).total
  annual_income passbook kept =
      let tests : TestsAreThere day = tests_exist day in record {
        earned = earned_of facts day;
        of_earned = earned_income facts day (named kept);
        tests = tests;
        assets = asset_income_of facts day passbook;
        of_assets = asset_income passbook;
        is = ap (λ (unearned : ℕ). earned_of facts day + unearned + asset_income_of facts day passbook)
            (unearned_is_of_whole_list facts tests.other.0 tests.adoption.0 tests.family.0 (named kept) tests.other.1 tests.adoption.1 tests.family.1);
      }
