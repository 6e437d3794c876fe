use Rattle.income_rules.proofs.{Words.arith, Words.is_counted_whole, Words.is_adoption, Fits.sums_fit, Fits.sum_of-le, Fits.whole_and_adoption_fit}
use Rattle.income_rules.proofs.unearned.counted_unearned.Goals as goal

pub counted_whole-whole-requires : goal.counted_whole-whole-requires
counted_whole-whole-requires c =
    rw c.as_slice.ensures (omega (arith, sum_of-le is_counted_whole c.args.facts.now.incomes c.args.member, (sums_fit c.args.facts.now c.args.day c.requires.kept).incomes))

pub adoption-adoption-requires : goal.adoption-adoption-requires
adoption-adoption-requires c =
    rw c.as_slice-2.ensures (omega (arith, sum_of-le is_adoption c.args.facts.now.incomes c.args.member, (sums_fit c.args.facts.now c.args.day c.requires.kept).incomes))

pub counted-requires : goal.counted-requires
counted-requires c =
    let whole = rw c.as_slice.ensures at c.counted_whole-whole.ensures in
    let adoption = rw c.as_slice-2.ensures at c.adoption-adoption.ensures in
    omega (arith, whole, adoption, whole_and_adoption_fit c.args.facts.now c.args.day c.args.member c.requires.kept)
