use Rattle.std.proofs.Common.{sym}
use Rattle.certified_figures.specs.Figures.{AreEligible}
use Rattle.admission_order.specs.Below.office_step.Eligible.{eligible_of_record}
use Rattle.admission_order.proofs.Below.office_step.Members.{continued_in}
use Rattle.office_acts.proofs.records.made_of_carried.Goals as goal

pub figures_carried-figures-requires-clause-eligible : goal.figures_carried-figures-requires-clause-eligible
figures_carried-figures-requires-clause-eligible c =
    rw c.eligible_of_record.ensures.value
    (continued_in (λ r. AreEligible (eligible_of_record c.args.register.now.known.eligible r) r.size) c.args.register.now.known c.args.heading.now.household
    c.args.heading.now.from c.in_ok-held.held.now c.eligible_of_record.ensures.all (rw (← c.history.ensures.households) (sym c.in_ok-held.ensures)))
