use Rattle.std.proofs.Common.{arith}
use Rattle.income_rules.proofs.Fits.{sums_fit, net_assets_fit}
use Rattle.income_rules.proofs.assets.net_assets.Goals as goal

pub values_of_assets-values-requires : goal.values_of_assets-values-requires
values_of_assets-values-requires c = rw c.as_slice.ensures (omega (arith, (sums_fit c.args.facts.now c.args.day c.requires).asset_values))

pub given_away-difference-requires-clause-values : goal.given_away-difference-requires-clause-values
given_away-difference-requires-clause-values c = rw c.as_slice-2.ensures (omega (arith, (sums_fit c.args.facts.now c.args.day c.requires).disposal_values))

pub given_away-difference-requires-clause-received : goal.given_away-difference-requires-clause-received
given_away-difference-requires-clause-received c = rw c.as_slice-2.ensures (omega (arith, (sums_fit c.args.facts.now c.args.day c.requires).disposal_receipts))

pub overflow_add-result : goal.overflow_add-result
overflow_add-result c =
    let values = rw c.as_slice.ensures at c.values_of_assets-values.ensures in
    let difference = rw c.as_slice-2.ensures at c.given_away-difference.ensures in
    let counted = rw difference at c.counted_given_away.ensures in
    omega (arith, values, counted, net_assets_fit c.args.facts.now c.args.day c.requires)
