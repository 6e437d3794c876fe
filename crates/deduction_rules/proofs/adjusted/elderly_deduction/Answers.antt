use Rattle.deduction_rules.proofs.Bounds.{all_born}
use Rattle.deduction_rules.proofs.adjusted.elderly_deduction.Goals as goal

pub is_elderly_family-requires : goal.is_elderly_family-requires
is_elderly_family-requires c = rw c.as_slice.ensures (all_born c.args.facts.now c.args.day c.requires)
