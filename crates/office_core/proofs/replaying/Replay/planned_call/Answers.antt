use Rattle.std.proofs.Common.{sym}
use Rattle.office_core.proofs.Judging.{nothing_for}
use Rattle.office_core.proofs.replaying.Replay.planned_call.Goals as goal

pub returns-in-Some-clause-rows : goal.returns-in-Some-clause-rows
returns-in-Some-clause-rows g c =
    sym (nothing_for c.args.call c.in-Some.field-0.now c.requires.0.reached (rw (← c.requires.1.0) (sym c.in-Some.ensures))
    c.requests_are_once.ensures.repeated c.requests_are_once.ensures.reused c.args.row.now.session c.args.row.now.day)
