use Rattle.std.proofs.Common.{◌∙◌, refl}
use Rattle.rent_table.specs.Table.{limits_on}
use Rattle.wait_list.specs.Target.{wants_extremely_low}
use Rattle.office_register.specs.Below.office_step.Candidates.{targets_of}
use Rattle.admission_order.proofs.Wanted.{next_by}
use Rattle.admission_order.proofs.next.next_for.Goals as goal

pub returns : goal.returns
returns c =
    let known = c.args.register.now.known in
    c.by_targets.ensures
    ∙ next_by (wants_extremely_low (targets_of c.args.plan.now c.args.day known.households)) c.args.unit.now c.args.plan.now (limits_on known.limits c.args.day) _ _ known.waiting _ _
    c.next_if-first.ensures c.next_if-extremely_low.ensures
    ∙ simp (c.needing_mover-needing.ensures, c.first_mover-other.ensures, c.requests.ensures.requests, c.history.ensures.households) refl
