use Rattle.std.proofs.Common.{◌≡◌, rules}
use Rattle.wait_list.specs.Target.{wants_extremely_low}
use Rattle.office_register.specs.Below.office_step.Candidates.{targets_of}
use Rattle.admission_order.proofs.Wanted.{either}
use Rattle.admission_order.proofs.next.by_targets.Goals as goal

pub returns-then-eq : goal.returns-then-eq
returns-then-eq c =
    let same : c.args.first ≡ c.args.extremely_low = search rules in
    either (wants_extremely_low (targets_of c.args.plan.now c.args.day c.args.register.now.known.households)) c.args.first c.args.extremely_low same
