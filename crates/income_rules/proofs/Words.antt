-- The names that most proofs here cite, passed on from one place. Declares nothing.
pub use Rattle.std.proofs.Common.{◌≡◌, ℕ, ◌+◌, ◌≤◌, min, max, mul-le-mul_left, true, Bool, cond, List, [], ◌∷◌, length, Option, Some, None, arith, zero, suc, refl, ◌*◌, ◌<◌}
pub use Rattle.std.proofs.lemmas.Bool.{and_parts, leb-true}
pub use Rattle.std.proofs.lemmas.{Grind.common_steps, Bool.Decides.nat_tests, List.Sums.sum_by-le, List.Sums.sum_by-cons, List.Sums.sum_by-le-sum_by, List.Sums.AllPass-from_list_all}
pub use Rattle.std.specs.{List.range_with_len, List.list_all, Option.option_map_or}
pub use Rattle.std.specs.Prelude.{◌==◌, ◌&&◌, if◌then◌else◌, sum_by, slice_get, nat_lt, nat_le, filter}
pub use Rattle.facts_core.specs.Rules.{is_amount, is_aide, broken_rule, has_one_head, has_at_most_one_partner, names_members, has_amounts, has_fair_disposals, is_in_size, has_births_by, has_an_eligible_member}
pub use Rattle.facts_core.specs.declared.{facts.Facts.Facts, incomes.Income.Income, members.Member.Member, property.Asset.Asset, property.Disposal.Disposal, incomes.IncomeKind.IncomeKind}
pub use Rattle.list_laws.proofs.{Ranges.sum_by-range_more, Options.unless_none}
pub use Rattle.income_rules.specs.{Assets.window_start, Assets.is_between, Assets.given_away_of, Assets.net_assets_of, Assets.imputed_asset_income, Assets.asset_income_of, Members.is_head_or_partner, Members.is_under, Annual.annual_income_of}
pub use Rattle.income_rules.specs.Income.{is_earned, is_adoption, is_counted_whole, sum_of, counted_of_earnings, counted_of_others, counted_earned_of, counted_unearned_of}
