use Rattle.tenancy_rules.proofs.ByUnit.{ends_after, between-is}
use Rattle.tenancy_rules.proofs.uses.of_unit.Goals as goal

pub slice_bounds-result-count : goal.slice_bounds-result-count
slice_bounds-result-count c =
    ends_after c.args.uses.now c.args.unit _ _ c.first_above-end.ensures.bound c.first_from-first.ensures.bound c.first_from-first.ensures.point c.first_above-end.ensures.point

pub slice_bounds-result-start : goal.slice_bounds-result-start
slice_bounds-result-start c =
    ends_after c.args.uses.now c.args.unit _ _ c.first_above-end.ensures.bound c.first_from-first.ensures.bound c.first_from-first.ensures.point c.first_above-end.ensures.point

pub returns : goal.returns
returns c =
    between-is c.args.uses.now c.args.unit _ _ c.first_above-end.ensures.bound
    (ends_after c.args.uses.now c.args.unit _ _ c.first_above-end.ensures.bound c.first_from-first.ensures.bound c.first_from-first.ensures.point c.first_above-end.ensures.point)
    c.first_from-first.ensures.point c.first_above-end.ensures.point
