use Rattle.tenancy_rules.proofs.Words.{◌≡◌, ◌∙◌, sym, ◌<◌, length, get_or, is_rival_on}
use Rattle.std.proofs.Common.{rules}
use Rattle.tenancy_rules.proofs.ByUnit.{unit_gone_through, unit_passed_over, same_unit}
use Rattle.tenancy_rules.proofs.occupancy.first_by_records.Goals.{then-ne, else-ne}
use Rattle.tenancy_rules.proofs.occupancy.first_by_records.Goals as goal

pub loop-held-preserved : goal.loop-held-preserved
loop-held-preserved c =
    let rival = is_rival_on c.args.history.now.households c.args.household c.args.change.now in
    let within : c.loop-held.held-index < length c.args.records.now = search rules in
    let at : get_or c.args.records.now c.loop-held.held-index c.held-item.result ≡ c.held-item.result = search rules in
    elim c.if-ne.branch [
      | then-ne w ↦
          unit_gone_through rival 80354 c.args.uses.now c.args.records.now c.loop-held.held-index c.held-item.result within at c.loop-held.first c.if-ne.first
          c.loop-held.invariant.0 c.loop-held.unit c.if-ne.unit w.of_unit.result.now w.of_unit.ensures (w.first-is ∙ w.first_among-first.ensures) w.unit-is
      | else-ne w ↦
          let same = same_unit c.loop-held.unit c.held-item.result.unit (sym c.ne.ensures ∙ w.if-ne.false) in
          unit_passed_over rival 80354 c.args.uses.now c.args.records.now c.loop-held.held-index c.held-item.result within at c.loop-held.first c.if-ne.first
          c.loop-held.invariant.0 c.loop-held.unit c.if-ne.unit same c.loop-held.invariant.1 w.first-is w.unit-is
    ]
