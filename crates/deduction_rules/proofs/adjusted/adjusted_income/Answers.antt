use Rattle.std.proofs.Common.{arith}
use Rattle.deduction_rules.proofs.Bounds.{deductions-le}
use Rattle.deduction_rules.proofs.adjusted.adjusted_income.Goals as goal

pub overflow_add-deductions : goal.overflow_add-deductions
overflow_add-deductions c = omega (arith, deductions-le c.args.facts.now c.args.annual.now.total c.args.day c.requires)

pub overflow_add-deductions-2 : goal.overflow_add-deductions-2
overflow_add-deductions-2 c = omega (arith, deductions-le c.args.facts.now c.args.annual.now.total c.args.day c.requires)

pub overflow_add-deductions-3 : goal.overflow_add-deductions-3
overflow_add-deductions-3 c = omega (arith, deductions-le c.args.facts.now c.args.annual.now.total c.args.day c.requires)

pub overflow_add-deductions-4 : goal.overflow_add-deductions-4
overflow_add-deductions-4 c = omega (arith, deductions-le c.args.facts.now c.args.annual.now.total c.args.day c.requires)
