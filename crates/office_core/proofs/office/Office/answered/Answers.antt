use Rattle.office_answers.specs.Below.office_step.Refusals.{is_request_of}
use Rattle.office_core.proofs.{Found.found_there, Judging.again_in, Judging.reused_in}
use Rattle.office_core.proofs.office.Office.answered.Goals as goal

pub done-requires-clause-held : goal.done-requires-clause-held
done-requires-clause-held c = found_there (is_request_of c.args.call.now.clerk c.args.call.now.request) c.args.self.now.book.acts c.args.row.now c.requires.found

pub returns-then-eq-clause-judged : goal.returns-then-eq-clause-judged
returns-then-eq-clause-judged c =
    again_in c.args.call.now c.args.row.now c.self.view_is c.self.invariant.reached c.requires.found c.done.result c.requests_are_once.ensures.repeated
    (rw (← c.requires.body, ← c.as_bytes.ensures, ← c.as_bytes-2.ensures, ← c.eq.ensures) c.if-eq.true) c.done.ensures

pub returns-else-eq-clause-judged : goal.returns-else-eq-clause-judged
returns-else-eq-clause-judged c =
    reused_in c.args.call.now c.args.row.now c.self.view_is c.self.invariant.reached c.requires.found c.requests_are_once.ensures.reused
    (rw (← c.requires.body, ← c.as_bytes.ensures, ← c.as_bytes-2.ensures, ← c.eq.ensures) c.if-eq.false)
