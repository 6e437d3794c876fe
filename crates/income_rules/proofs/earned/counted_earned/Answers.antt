use Rattle.income_rules.proofs.{Fits.sums_fit, Fits.sum_of-le, Kept.keeps, Kept.born_by, Words.is_earned, Words.arith}
use Rattle.income_rules.proofs.earned.counted_earned.Goals as goal

pub earnings-earnings-requires : goal.earnings-earnings-requires
earnings-earnings-requires c =
    rw c.as_slice.ensures (omega (arith, sum_of-le is_earned c.args.facts.now.incomes c.args.member, (sums_fit c.args.facts.now c.args.day c.requires.kept).incomes))

pub counted-requires : goal.counted-requires
counted-requires c =
    born_by c.as_slice-2.result.now c.args.member c.args.day c.member_at-earner.result (rw c.as_slice-2.ensures (keeps c.args.facts.now c.args.day c.requires.kept).births) c.member_at-earner.ensures
