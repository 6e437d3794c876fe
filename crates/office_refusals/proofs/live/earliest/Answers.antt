use Rattle.std.proofs.Common.{◌∙◌}
use Rattle.record_history.specs.Held.{records_of}
use Rattle.office_refusals.proofs.Ordered.{first_other}
use Rattle.office_refusals.proofs.live.earliest.Goals as goal

pub returns : goal.returns
returns c =
    let live = c.live_in_order in
    c.first_but.ensures
    ∙ first_other (records_of c.args.history.now.households c.args.household) live.result.now live.ensures.numbered live.ensures.order c.args.left_out
