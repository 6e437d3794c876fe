use Rattle.tenancy_rules.proofs.Words.{◌∙◌, ◌≤◌, length, records_of, changed_records, is_out_of_order}
use Rattle.std.proofs.Common.{rules}
use Rattle.record_history.proofs.CorrectedLemmas.{take_past}
use Rattle.tenancy_rules.proofs.Ordered.{earliest_kept}
use Rattle.tenancy_rules.proofs.order.first_kept_out_of_order.Goals as goal

pub returns : goal.returns
returns c =
    let live = c.live_in_order-held-items.result.now in
    let records = records_of c.args.history.now.households c.args.household in
    let past : length live ≤ c.loop-held.held-index = search rules in
    rw (take_past live c.loop-held.held-index past) at c.loop-held.invariant
    ∙ earliest_kept records live c.live_in_order-held-items.ensures.numbered c.live_in_order-held-items.ensures.order
    (is_out_of_order (changed_records records c.args.change.now)) c.args.change.now.drop
