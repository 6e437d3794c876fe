use Rattle.std.proofs.Common.{◌∙◌, sym, ap}
use Rattle.std.specs.Prelude.{◌&&◌}
use Rattle.row_choice.proofs.LatestLemmas.{filter-filter}
use Rattle.record_history.specs.{declared.records.Record.Record, Held.records_of, Records.latest, Records.live_records}
use Rattle.tenancy_rules.specs.Changed.{without, is_before}
use Rattle.office_step.specs.Households.{begins_year}
use Rattle.office_refusals.proofs.Ordered.{last_other}
use Rattle.office_refusals.proofs.live.last_in_order.Goals as goal

pub returns : goal.returns
returns c =
    let live = c.live_in_order in
    c.last_base.ensures
    ∙ last_other (records_of c.args.history.now.households c.args.household) live.result.now live.ensures.numbered live.ensures.order
    (λ (r : Record). is_before c.args.day c.args.number r && begins_year r.kind) c.args.left_out
    ∙ ap latest
    (sym (filter-filter (λ (r : Record). begins_year r.kind) (is_before c.args.day c.args.number) (without c.args.left_out (live_records (records_of c.args.history.now.households c.args.household)))))
