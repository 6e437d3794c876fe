use Rattle.tenancy_rules.proofs.SharedUnit.{first_shared-is, searched-added, searched-none}
use Rattle.tenancy_rules.proofs.occupancy.Pair.first_day.Goals as goal

pub returns-in-Some : goal.returns-in-Some
returns-in-Some c =
    searched-added _ c.live_records-own.result.now c.live_records-others.result.now c.args.self.now.change.now _ _ _ c.in-Some.added _
    c.first_beginning-first.ensures c.first_beginning-first-2.ensures c.in-Some.is c.sooner_beginning.ensures
    (first_shared-is c.args.self.now.history.now.households c.args.self.now.household c.args.self.now.change.now c.args.self.now.other c.args.end
    c.live_records-own.result.now c.live_records-others.result.now c.live_records-own.ensures.order.all c.live_records-others.ensures.order.all)

pub returns-in-None : goal.returns-in-None
returns-in-None c =
    searched-none _ c.live_records-own.result.now c.live_records-others.result.now c.args.self.now.change.now _ _ _
    c.first_beginning-first.ensures c.first_beginning-first-2.ensures c.in-None.is
    (first_shared-is c.args.self.now.history.now.households c.args.self.now.household c.args.self.now.change.now c.args.self.now.other c.args.end
    c.live_records-own.result.now c.live_records-others.result.now c.live_records-own.ensures.order.all c.live_records-others.ensures.order.all)
