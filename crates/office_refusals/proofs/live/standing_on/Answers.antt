use Rattle.std.proofs.Common.{◌∙◌}
use Rattle.std.specs.Prelude.{nat_le}
use Rattle.record_history.specs.Held.{records_of}
use Rattle.office_refusals.proofs.Ordered.{last_other}
use Rattle.office_refusals.proofs.live.standing_on.Goals as goal

pub returns : goal.returns
returns c =
    let live = c.live_in_order in
    c.last_begun.ensures
    ∙ last_other (records_of c.args.history.now.households c.args.household) live.result.now live.ensures.numbered live.ensures.order
    (λ r. nat_le r.from c.args.day) c.args.left_out
