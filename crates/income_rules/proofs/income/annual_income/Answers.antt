use Rattle.std.proofs.Common.{arith}
use Rattle.income_rules.proofs.Fits.{annual_income_fits}
use Rattle.income_rules.proofs.income.annual_income.Goals as goal

pub overflow_add-result : goal.overflow_add-result
overflow_add-result c = omega (arith, annual_income_fits c.args.facts.now c.args.day c.args.passbook c.requires.kept c.requires.rate)

pub overflow_add-result-2 : goal.overflow_add-result-2
overflow_add-result-2 c = omega (arith, annual_income_fits c.args.facts.now c.args.day c.args.passbook c.requires.kept c.requires.rate)

pub returns-clause-within : goal.returns-clause-within
returns-clause-within c = omega (arith, annual_income_fits c.args.facts.now c.args.day c.args.passbook c.requires.kept c.requires.rate)
