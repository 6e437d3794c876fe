use Rattle.std.proofs.Common.{arith, sym, ◌∙◌}
use Rattle.days_core.proofs.Bridge.{year_of_mono, year_of-lt}
use Rattle.days_core.proofs.age.age_on.Goals as goal

pub overflow_sub-years : goal.overflow_sub-years
overflow_sub-years c = omega (arith, year_of_mono c.args.born c.args.day c.requires c.civil-year.ensures.in_range)

pub overflow_sub-result : goal.overflow_sub-result
overflow_sub-result c =
    let earlier = sym c.comes_earlier_in_year.ensures ∙ c.if-comes_earlier_in_year.true in
    omega (arith, year_of-lt c.args.born c.args.day c.requires c.civil-year.ensures.in_range earlier)
