use Rattle.std.proofs.Common.{arith}
use Rattle.deduction_rules.proofs.Bounds.{all_born, dependents-le}
use Rattle.deduction_rules.proofs.adjusted.dependents_deduction.Goals as goal

pub dependents-requires : goal.dependents-requires
dependents-requires c = rw c.as_slice.ensures (all_born c.args.facts.now c.args.day c.requires)

pub overflow_cast-result : goal.overflow_cast-result
overflow_cast-result c =
    let count = rw c.as_slice.ensures at c.dependents.ensures in
    omega (arith, count, dependents-le c.args.facts.now c.args.day c.requires)

pub overflow_mul-result : goal.overflow_mul-result
overflow_mul-result c =
    let count = rw c.as_slice.ensures at c.dependents.ensures in
    omega (arith, count, dependents-le c.args.facts.now c.args.day c.requires)
