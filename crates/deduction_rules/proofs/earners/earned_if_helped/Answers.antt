use Rattle.income_rules.proofs.Kept.{keeps, born_by}
use Rattle.deduction_rules.proofs.earners.earned_if_helped.Goals as goal

pub is_helped_adult-requires : goal.is_helped_adult-requires
is_helped_adult-requires c =
    born_by c.as_slice.result.now c.args.number c.args.day c.member_at.result (rw c.as_slice.ensures (keeps c.args.facts.now c.args.day c.requires.kept).births) c.member_at.ensures
