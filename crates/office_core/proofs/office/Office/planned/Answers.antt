use Rattle.std.proofs.Common.{Err, subst}
use Rattle.office_answers.specs.Below.office_step.{declared.call.Capacity.Capacity, Step.step}
use Rattle.office_core.specs.Judged.{Judges}
use Rattle.office_core.proofs.Judging.{new_to}
use Rattle.office_core.proofs.office.Office.planned.Goals as goal

pub returns-in-Ok-clause-judged : goal.returns-in-Ok-clause-judged
returns-in-Ok-clause-judged c =
    let held = c.held-held.ensures in
    rw held.capacity at (c.in-Ok.ensures.appends c.args.self.now.book
    (new_to c.self.view_is c.self.invariant.reached c.self.invariant.known held.capacity held.last held.lines c.requires.is_new))

pub returns-in-Ok-clause-planned : goal.returns-in-Ok-clause-planned
returns-in-Ok-clause-planned c =
    let held = c.held-held.ensures in
    rw held.capacity at (c.in-Ok.ensures.planned c.args.self.now.book
    (new_to c.self.view_is c.self.invariant.reached c.self.invariant.known held.capacity held.last held.lines c.requires.is_new))

pub returns-in-Err-clause-judged : goal.returns-in-Err-clause-judged
returns-in-Err-clause-judged c =
    let held = c.held-held.ensures in
    subst (λ (capacity : Capacity). Judges (step c.args.self.now.book capacity c.args.session c.args.clock c.args.call) (Err c.in-Err.judgment)) held.capacity
    (c.in-Err.ensures.refused c.args.self.now.book
    (new_to c.self.view_is c.self.invariant.reached c.self.invariant.known held.capacity held.last held.lines c.requires.is_new))
