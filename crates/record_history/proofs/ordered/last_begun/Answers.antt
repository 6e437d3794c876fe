use Rattle.record_history.proofs.Words.{arith, ◌∙◌}
use Rattle.record_history.proofs.OrderedLemmas.{none_begun, last_is}
use Rattle.record_history.proofs.ordered.last_begun.Goals as goal

pub returns-then-begun-eq0 : goal.returns-then-begun-eq0
returns-then-begun-eq0 c =
    none_begun c.args.live.now c.args.day c.how_many_begun-begun.result c.requires c.how_many_begun-begun.ensures.bound c.how_many_begun-begun.ensures.point (omega (arith, c.if-begun-eq0.true))

pub returns : goal.returns
returns c =
    c.item_at.ensures
    ∙ last_is c.args.live.now c.args.day c.how_many_begun-begun.result c.requires c.how_many_begun-begun.ensures.bound c.how_many_begun-begun.ensures.point (omega (arith, c.if-begun-eq0.false))
