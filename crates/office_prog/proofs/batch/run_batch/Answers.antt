use Rattle.std.proofs.Common.{inl, inr, refl, ◌∙◌}
use Rattle.office_prog.specs.Batch.{Batched}
use Rattle.batch_command.specs.Batch.{LeavesByLine}
use Rattle.program_answers.specs.Opening.{largest}
use Rattle.program_answers.proofs.Keeping.{opened_tells, unopened_tells, outlives_opened, outlives_alone}
use Rattle.program_answers.proofs.Serving.{served}
use Rattle.office_prog.proofs.batch.run_batch.Goals as goal

pub returns-in-Ok-clause-comes : goal.returns-in-Ok-clause-comes
returns-in-Ok-clause-comes g c =
    inl (served (Batched (g.C.Clock.may_show c.args.clock.now)) _ _ _ _ _ _ _ _ _ _ _ _ _ _ _ _ c.in-Ok.ensures.valid (c.answer_batch-status.ensures.stays.capacity ∙ c.in-Ok.ensures.capacity)
    c.tables-of_an_office.ensures.reached c.tables-of_an_office.ensures.upheld c.in-Ok.ensures.told c.in-Ok.ensures.kept c.in-Ok.ensures.no_fault
    c.answer_batch-status.ensures.stays.kept c.answer_batch-status.ensures.stays.told_before c.answer_batch-status.ensures.stays.kept_row c.answer_batch-status.ensures.batched)

pub returns-in-Err-clause-comes : goal.returns-in-Err-clause-comes
returns-in-Err-clause-comes g c = inr (record {
  why = c.in-Err.fault;
  is_why = c.in-Err.ensures.unopened;
  kept = c.in-Err.ensures.kept;
  unread = refl;
  unfaulted = refl;
  told = c.tell_unopened.ensures _ _ _ _ c.in-Err.ensures.cause;
})

pub returns-in-Ok-clause-tells_on : goal.returns-in-Ok-clause-tells_on
returns-in-Ok-clause-tells_on g c = opened_tells (g.K.Keeper.holds c.args.keeper.now) (g.K.Keeper.holds c.open_office.new.keeper) (g.K.Keeper.holds c.answer_batch-status.new.keeper) c.answer_batch-status.new.office.book c.in-Ok.ensures.goes_on c.answer_batch-status.ensures.stays.tells_on

pub returns-in-Ok-clause-stopped : goal.returns-in-Ok-clause-stopped
returns-in-Ok-clause-stopped g c =
    outlives_opened (g.K.Keeper.holds c.args.keeper.now) (g.K.Keeper.holds c.open_office.new.keeper) (g.K.Keeper.leaves c.args.keeper.now) (g.K.Keeper.leaves c.open_office.new.keeper) c.in-Ok.ensures.kept c.in-Ok.ensures.crash_told c.in-Ok.ensures.crash
    (LeavesByLine largest (g.C.Clock.may_show c.args.clock.now) (g.S.Source.left c.args.source.now)) (g.K.Keeper.holds c.answer_batch-status.new.keeper) (g.K.Keeper.leaves c.answer_batch-status.new.keeper) c.answer_batch-status.ensures.stopped

pub returns-in-Err-clause-tells_on : goal.returns-in-Err-clause-tells_on
returns-in-Err-clause-tells_on g c = unopened_tells (g.K.Keeper.holds c.args.keeper.now) (g.K.Keeper.holds c.open_office.new.keeper) c.in-Err.ensures.goes_on

pub returns-in-Err-clause-stopped : goal.returns-in-Err-clause-stopped
returns-in-Err-clause-stopped g c =
    outlives_alone (g.K.Keeper.holds c.args.keeper.now) (g.K.Keeper.holds c.open_office.new.keeper) (g.K.Keeper.leaves c.args.keeper.now) (g.K.Keeper.leaves c.open_office.new.keeper) c.in-Err.ensures.kept c.in-Err.ensures.crash_told c.in-Err.ensures.crash
    (LeavesByLine largest (g.C.Clock.may_show c.args.clock.now) (g.S.Source.left c.args.source.now)) (λ book after same. inl same)
