-- The annual income of a family (24 CFR 5.609).
use Rattle.std.specs.Prelude.{ℕ, ◌+◌}
use Rattle.facts_core.specs.declared.facts.Facts.{Facts}
use Rattle.income_rules.specs.{declared.figures.Annual.Annual, Income.earned_of, Income.unearned_of, Assets.asset_income_of}

-- earned income, unearned income and the income from assets, and the three together
abbrev pub annual_income_of : Facts → ℕ → ℕ → Annual
annual_income_of facts day passbook = record {
  earned = earned_of facts day;
  unearned = unearned_of facts;
  asset = asset_income_of facts day passbook;
  total = earned_of facts day + unearned_of facts + asset_income_of facts day passbook;
}
