use Rattle.std.proofs.Common.{◌∙◌, ap, sym, refl}
use Rattle.office_answers.specs.Below.office_step.Step.{appends}
use Rattle.office_core.proofs.Judging.{new_call, judged_err, judged_ok, refused_for, full_for, appends_for, planned_for}
use Rattle.office_core.proofs.drafting.drafted.Goals as goal

pub returns-in-Err-clause-refused : goal.returns-in-Err-clause-refused
returns-in-Err-clause-refused c =
    λ book fresh.
    (let tried = new_call fresh c.requests_are_once.ensures.new c.act_day-day.ensures.value in
    refused_for tried c.args.session c.in-Err.refusal (judged_err _ _ _ (sym c.in-Err.is ∙ c.judge.ensures.judged)))

pub returns-in-Some-clause-refused : goal.returns-in-Some-clause-refused
returns-in-Some-clause-refused c =
    λ book fresh.
    (let tried = new_call fresh c.requests_are_once.ensures.new c.act_day-day.ensures.value in
    let free = judged_ok _ _ _ (sym c.in-Ok.is ∙ c.judge.ensures.judged) in
    let room = rw (c.deref.ensures.value, c.in-Ok-lines_of.ensures.lines, fresh.lines) at c.full_of.ensures in
    full_for tried c.args.session c.in-Some.refusal free.0 (sym room ∙ c.in-Some.is))

pub returns-clause-appends : goal.returns-clause-appends
returns-clause-appends c =
    λ book fresh.
    (let tried = new_call fresh c.requests_are_once.ensures.new c.act_day-day.ensures.value in
    let free = judged_ok _ _ _ (sym c.in-Ok.is ∙ c.judge.ensures.judged) in
    let room = rw (c.deref.ensures.value, c.in-Ok-lines_of.ensures.lines, fresh.lines) at c.full_of.ensures in
    appends_for tried c.args.session free.0 (sym room ∙ c.in_default-full_of.is)
    ∙ ap appends (rw (c.count.ensures.count, c.in-Ok-text_for.ensures.is, free.1, c.new-lines.ensures, c.in-Ok-lines_of.ensures.lines) refl))

pub returns-clause-planned : goal.returns-clause-planned
returns-clause-planned c =
    λ book fresh.
    (let tried = new_call fresh c.requests_are_once.ensures.new c.act_day-day.ensures.value in
    let free = judged_ok _ _ _ (sym c.in-Ok.is ∙ c.judge.ensures.judged) in
    let room = rw (c.deref.ensures.value, c.in-Ok-lines_of.ensures.lines, fresh.lines) at c.full_of.ensures in
    rw (c.count.ensures.count, c.in-Ok-name_given.ensures, c.in-Ok-text_for.ensures.is, free.1, c.new-lines.ensures, c.in-Ok-lines_of.ensures.lines)
    (planned_for tried c.args.session c.days_are_lived.ensures.stays c.requires.fit (rw c.in-Ok-text_for.ensures.is at c.in-Ok-text_for.ensures.reads) free.0 (sym room ∙ c.in_default-full_of.is)))
