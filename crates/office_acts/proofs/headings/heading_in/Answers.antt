use Rattle.office_acts.specs.Matter.{matter_by}
use Rattle.office_acts.proofs.Ready.{over_ready}
use Rattle.office_acts.proofs.headings.heading_in.Goals as goal

pub returns-in_ok-target_in-in-Some-clause-ready : goal.returns-in_ok-target_in-in-Some-clause-ready
returns-in_ok-target_in-in-Some-clause-ready c =
    rw c.heading_over.ensures
    (over_ready (matter_by c.args.about.now) c.in_ok-target_in-in-Some.field-0.now c.requires.in_time c.requires.facts
    c.in_ok-target_in-in-Some.ensures.dates c.in_ok-target_in-in-Some.ensures.within)
