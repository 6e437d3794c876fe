use Rattle.tenancy_rules.proofs.ByUnit.{with_one, with_none}
use Rattle.tenancy_rules.proofs.occupancy.double_use_by.Goals as goal

pub returns-in-Some : goal.returns-in-Some
returns-in-Some c =
    with_one c.args.history.now.households c.args.household c.args.change.now c.args.uses.now c.requires.uses c.live_records-live.result.now c.live_records-live.ensures.order.all
    c.in-Some.added c.in-Some.is _ _ _ c.of_unit.ensures c.first_by_records-first.ensures c.first_among.ensures

pub returns-in-None : goal.returns-in-None
returns-in-None c =
    with_none c.args.history.now.households c.args.household c.args.change.now c.args.uses.now c.requires.uses c.live_records-live.result.now c.live_records-live.ensures.order.all
    c.in-None.is _ c.first_by_records-first.ensures
