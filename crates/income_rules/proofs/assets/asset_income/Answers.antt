use Rattle.std.proofs.Common.{arith}
use Rattle.income_rules.proofs.Fits.{sums_fit}
use Rattle.income_rules.proofs.assets.asset_income.Goals as goal

pub incomes_of_assets-actual-requires : goal.incomes_of_assets-actual-requires
incomes_of_assets-actual-requires c = rw c.as_slice.ensures (omega (arith, (sums_fit c.args.facts.now c.args.day c.requires.kept).asset_incomes))
