use Rattle.std.proofs.Common.{arith}
use Rattle.deduction_rules.proofs.Bounds.{all_born, costs-le}
use Rattle.deduction_rules.proofs.adjusted.child_care.Goals as goal

pub has_young_child-requires : goal.has_young_child-requires
has_young_child-requires c = rw c.as_slice.ensures (all_born c.args.facts.now c.args.day c.requires)

pub overflow_add-result : goal.overflow_add-result
overflow_add-result c =
    let costs = costs-le c.args.facts.now c.args.day c.requires in
    omega (arith, costs.0, costs.1)
