use Rattle.std.proofs.Common.{arith}
use Rattle.jiff_core.proofs.SignedLemmas.{signed_arith}
use Rattle.days_core.proofs.Bridge.{number_of_date, day_in_range}
use Rattle.days_core.proofs.day.Day.from_date.Goals as goal

pub overflow_sub-result : goal.overflow_sub-result
overflow_sub-result c =
    omega (arith, (number_of_date c.args.date c.days_since_min.result (omega (arith, signed_arith)) (omega (arith, signed_arith)) c.days_since_min.ensures.value).0)

pub invariant_of-result : goal.invariant_of-result
invariant_of-result c =
    let number = number_of_date c.args.date c.days_since_min.result (omega (arith, signed_arith)) (omega (arith, signed_arith)) c.days_since_min.ensures.value in
    omega (arith, day_in_range _ _ number.1)

pub returns-clause-value : goal.returns-clause-value
returns-clause-value c =
    omega (arith, (number_of_date c.args.date c.days_since_min.result (omega (arith, signed_arith)) (omega (arith, signed_arith)) c.days_since_min.ensures.value).0)
