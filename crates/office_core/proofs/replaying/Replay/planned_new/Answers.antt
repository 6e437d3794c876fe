use Rattle.std.proofs.Common.{ap, sym}
use Rattle.office_answers.specs.Below.office_step.Valid.{rows_in}
use Rattle.office_core.specs.declared.drafting.BookLimits.{BookLimits}
use Rattle.office_core.proofs.{Judging.refused_by_it, Replayed.new_to_done}
use Rattle.office_core.proofs.replaying.Replay.planned_new.Goals as goal

pub returns-in-Ok-clause-rows : goal.returns-in-Ok-clause-rows
returns-in-Ok-clause-rows g c =
    let fresh = new_to_done c.requires.0 c.requires.1.0 c.held-held.ensures c.requires.1.1.1.1 in
    let capacity = ap (λ (held : BookLimits). held.capacity) c.held-held.ensures in
    sym (ap rows_in (rw capacity at (c.in-Ok.ensures.appends g.book fresh)))

pub returns-in-Ok-clause-planned : goal.returns-in-Ok-clause-planned
returns-in-Ok-clause-planned g c =
    let fresh = new_to_done c.requires.0 c.requires.1.0 c.held-held.ensures c.requires.1.1.1.1 in
    let capacity = ap (λ (held : BookLimits). held.capacity) c.held-held.ensures in
    rw capacity at (c.in-Ok.ensures.planned g.book fresh)

pub returns-in-Err-Refused-clause-rows : goal.returns-in-Err-Refused-clause-rows
returns-in-Err-Refused-clause-rows g c =
    let fresh = new_to_done c.requires.0 c.requires.1.0 c.held-held.ensures c.requires.1.1.1.1 in
    let capacity = ap (λ (held : BookLimits). held.capacity) c.held-held.ensures in
    sym (ap rows_in (refused_by_it g.book c.args.row.now.session c.args.row.now.day c.args.call c.in-Err-Refused.field-0 c.in-Err-Refused.field-0-0 capacity c.in-Err-Refused.field-0-is (c.in-Err-Refused.ensures.refused g.book fresh)))
