use Rattle.tenancy_rules.proofs.Words.{◌≡◌, ◌≢◌, ◌∙◌, true, comes_before, records_of, is_before, AllPairs-filter}
use Rattle.tenancy_rules.proofs.Ordered.{own_live, latest_kept}
use Rattle.tenancy_rules.proofs.changed.last_kept_before.Goals as goal

pub last_but-requires-clause-in_order : goal.last_but-requires-clause-in_order
last_but-requires-clause-in_order c =
    rw c.all_before.ensures
    (AllPairs-filter (λ r next. comes_before r next ≡ true) (is_before c.args.day c.args.number) c.live_in_order-live.result.now c.live_in_order-live.ensures.order.in_order)

pub last_but-requires-clause-own : goal.last_but-requires-clause-own
last_but-requires-clause-own c =
    rw c.all_before.ensures
    (AllPairs-filter (λ r other. r.number ≢ other.number) (is_before c.args.day c.args.number) c.live_in_order-live.result.now
    (own_live (records_of c.args.history.now.households c.args.household) c.live_in_order-live.result.now c.live_in_order-live.ensures.numbered c.live_in_order-live.ensures.order))

pub returns : goal.returns
returns c =
    rw c.all_before.ensures at c.last_but.ensures
    ∙ latest_kept (records_of c.args.history.now.households c.args.household) c.live_in_order-live.result.now c.live_in_order-live.ensures.numbered c.live_in_order-live.ensures.order
    c.args.day c.args.number c.args.dropped
