use Rattle.std.proofs.Common.{arith}
use Rattle.deduction_rules.proofs.Bounds.{all_born, costs-le}
use Rattle.deduction_rules.proofs.adjusted.medical_deduction.Goals as goal

pub is_elderly_family-requires : goal.is_elderly_family-requires
is_elderly_family-requires c = rw c.as_slice.ensures (all_born c.args.facts.now c.args.day c.requires)

pub medical_beyond-requires : goal.medical_beyond-requires
medical_beyond-requires c =
    let costs = costs-le c.args.facts.now c.args.day c.requires in
    omega (arith, costs.2, costs.3)
