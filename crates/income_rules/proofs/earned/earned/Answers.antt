use Rattle.income_rules.proofs.Words.{◌+◌, arith, counted_earned_of, sum_by-range_more}
use Rattle.income_rules.proofs.Fits.{family_within}
use Rattle.income_rules.proofs.earned.earned.Goals as goal

pub overflow_add-total : goal.overflow_add-total
overflow_add-total c =
    let more = sum_by-range_more (λ number. counted_earned_of c.args.facts.now number c.args.day) 0 c.loop-number.number c.loop-number.number (omega arith) in
    let within = family_within c.args.facts.now c.args.day (c.loop-number.number + 1) c.requires in
    omega (arith, more, within)

pub loop-number-preserved : goal.loop-number-preserved
loop-number-preserved c =
    let more = sum_by-range_more (λ number. counted_earned_of c.args.facts.now number c.args.day) 0 c.loop-number.number c.loop-number.number (omega arith) in
    omega (arith, more)
