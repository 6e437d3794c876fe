use Rattle.std.proofs.Common.{subst}
use Rattle.batch_command.specs.Below.office_step.declared.call.Capacity.{Capacity}
use Rattle.batch_command.specs.Below.clerk_desk.Serving.{Outlives}
use Rattle.batch_command.specs.Batch.{LinesRan, LeavesByLine}
use Rattle.office_prog.proofs.batch.answer_batch.Goals as goal

pub returns-clause-batched : goal.returns-clause-batched
returns-clause-batched g c = record {
  ending = c.answer_lines.result;
  ran = subst (λ (k : Capacity). LinesRan k (g.C.Clock.may_show c.args.clock.now) c.args.office.now.book c.answer_lines.new.office.book
      (g.S.Source.left c.args.source.now) (g.S.Source.left c.answer_lines.new.source) (g.W.Sink.held c.args.sink.now) (g.W.Sink.held c.answer_lines.new.sink) c.answer_lines.result)
      c.requires.capacity c.answer_lines.ensures.ran;
  blames = c.answer_lines.ensures.blames;
  status_is = c.status_of.ensures;
}

pub returns-clause-stopped : goal.returns-clause-stopped
returns-clause-stopped g c =
    subst (λ (k : Capacity). Outlives (LeavesByLine k (g.C.Clock.may_show c.args.clock.now) (g.S.Source.left c.args.source.now))
    (g.K.Keeper.holds c.args.keeper.now) (g.K.Keeper.leaves c.args.keeper.now) (g.K.Keeper.tells_crash c.args.keeper.now)
    (g.K.Keeper.holds c.answer_lines.new.keeper) (g.K.Keeper.leaves c.answer_lines.new.keeper) (g.K.Keeper.tells_crash c.answer_lines.new.keeper))
    c.requires.capacity c.answer_lines.ensures.stopped
