use Rattle.std.proofs.Common.{Ok, ap, subst, ◌∙◌}
use Rattle.clerk_desk.specs.Serving.{IsFurther}
use Rattle.batch_command.specs.{Line.TellCrash, Output.Told}
use Rattle.batch_command.proofs.ToldBy.{call_told, tells_call}
use Rattle.batch_command.proofs.line.told.Goals as goal

pub returns-in-Ok-Act-clause-told : goal.returns-in-Ok-Act-clause-told
returns-in-Ok-Act-clause-told g c =
    tells_call _ _ _ _ _ c.in-Ok-Act.day c.in-Ok-Act.call _ _ (c.in-Ok-Act.ensures.exact ∙ ap Ok c.in-Ok-Act.field-0-is) c.unwrap_or.ensures c.answer_call.ensures.told

pub returns-in-Ok-Act-clause-crash : goal.returns-in-Ok-Act-clause-crash
returns-in-Ok-Act-clause-crash g c =
    subst (λ (t : Told). g.K.Keeper.tells_crash c.answer_call.new.keeper → TellCrash (IsFurther c.args.office.now.capacity c.args.office.now.book t.book) c.args.office.now.book
    c.answer_call.new.office.book (g.K.Keeper.holds c.answer_call.new.keeper) (g.K.Keeper.leaves c.args.keeper.now) (g.K.Keeper.leaves c.answer_call.new.keeper) c.answer_call.result)
    (call_told c.args.office.now.capacity c.args.office.now.book _ _ c.in-Ok-Act.day c.in-Ok-Act.call _ (c.in-Ok-Act.ensures.exact ∙ ap Ok c.in-Ok-Act.field-0-is) c.unwrap_or.ensures)
    c.answer_call.ensures.crash
