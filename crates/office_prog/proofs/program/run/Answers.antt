use Rattle.std.proofs.Common.{◌≡◌, ℕ, inl, subst, rules}
use Rattle.batch_command.specs.Batch.{LeavesByLine}
use Rattle.batch_command.specs.Below.clerk_desk.Serving.{IsLeft, Outlives}
use Rattle.program_answers.specs.Opening.{largest}
use Rattle.office_prog.specs.Import.{LeavesByInput}
use Rattle.office_prog.proofs.Stops.{input_is_left, line_is_left, outlives_as, outlives_still}
use Rattle.office_prog.proofs.program.run.Goals as goal

-- (answers that the check would find itself, so that a wrong body is refused at once)
pub returns-in-Some-Batch-clause-batch : goal.returns-in-Some-Batch-clause-batch
returns-in-Some-Batch-clause-batch g c = search rules

pub returns-in-Some-Report-clause-report : goal.returns-in-Some-Report-clause-report
returns-in-Some-Report-clause-report g c = search rules

pub returns-in-Some-Import-clause-import : goal.returns-in-Some-Import-clause-import
returns-in-Some-Import-clause-import g c = search rules

pub returns-in-Some-Batch-clause-stopped : goal.returns-in-Some-Batch-clause-stopped
returns-in-Some-Batch-clause-stopped g c =
    outlives_as (LeavesByLine largest (g.C.Clock.may_show c.args.clock.now) (g.S.Source.left c.args.source.now)) (IsLeft largest)
    (g.K.Keeper.holds c.args.keeper.now) (g.K.Keeper.holds c.run_batch.new.keeper) (g.K.Keeper.leaves c.args.keeper.now) (g.K.Keeper.leaves c.run_batch.new.keeper)
    (line_is_left (g.C.Clock.may_show c.args.clock.now) (g.S.Source.left c.args.source.now)) c.run_batch.ensures.stopped

pub returns-in-Some-Import-clause-stopped : goal.returns-in-Some-Import-clause-stopped
returns-in-Some-Import-clause-stopped g c =
    outlives_as (LeavesByInput c.in-Some-Import.clerk (g.C.Clock.may_show c.args.clock.now) (g.S.Source.left c.args.source.now)) (IsLeft largest)
    (g.K.Keeper.holds c.args.keeper.now) (g.K.Keeper.holds c.run_import.new.keeper) (g.K.Keeper.leaves c.args.keeper.now) (g.K.Keeper.leaves c.run_import.new.keeper)
    (input_is_left c.in-Some-Import.clerk (g.C.Clock.may_show c.args.clock.now) (g.S.Source.left c.args.source.now)) c.run_import.ensures.stopped

pub returns-in-Some-Import-clause-import_stopped : goal.returns-in-Some-Import-clause-import_stopped
returns-in-Some-Import-clause-import_stopped g c =
    λ clerk is.
    let same : c.in-Some-Import.clerk ≡ clerk = search rules in
    subst (λ (k : ℕ). Outlives (LeavesByInput k (g.C.Clock.may_show c.args.clock.now) (g.S.Source.left c.args.source.now))
    (g.K.Keeper.holds c.args.keeper.now) (g.K.Keeper.leaves c.args.keeper.now) (g.K.Keeper.tells_crash c.args.keeper.now)
    (g.K.Keeper.holds c.run_import.new.keeper) (g.K.Keeper.leaves c.run_import.new.keeper) (g.K.Keeper.tells_crash c.run_import.new.keeper)) same
    c.run_import.ensures.stopped

-- where nothing is asked of the keeper

pub returns-in_default-clause-batch_stopped : goal.returns-in_default-clause-batch_stopped
returns-in_default-clause-batch_stopped g c = λ is. outlives_still (LeavesByLine largest (g.C.Clock.may_show c.args.clock.now) (g.S.Source.left c.args.source.now)) (g.K.Keeper.holds c.args.keeper.now) (g.K.Keeper.leaves c.args.keeper.now) (λ held after same. inl same)

pub returns-in_default-clause-import_stopped : goal.returns-in_default-clause-import_stopped
returns-in_default-clause-import_stopped g c = λ clerk is. outlives_still (LeavesByInput clerk (g.C.Clock.may_show c.args.clock.now) (g.S.Source.left c.args.source.now)) (g.K.Keeper.holds c.args.keeper.now) (g.K.Keeper.leaves c.args.keeper.now) (λ held after same. inl same)

pub returns-in_default-clause-stopped : goal.returns-in_default-clause-stopped
returns-in_default-clause-stopped g c = outlives_still (IsLeft largest) (g.K.Keeper.holds c.args.keeper.now) (g.K.Keeper.leaves c.args.keeper.now) (λ held after same. inl same)

pub returns-in-Some-Assess-clause-stopped : goal.returns-in-Some-Assess-clause-stopped
returns-in-Some-Assess-clause-stopped g c = outlives_still (IsLeft largest) (g.K.Keeper.holds c.args.keeper.now) (g.K.Keeper.leaves c.args.keeper.now) (λ held after same. inl same)

pub returns-in-Some-Make-clause-stopped : goal.returns-in-Some-Make-clause-stopped
returns-in-Some-Make-clause-stopped g c = outlives_still (IsLeft largest) (g.K.Keeper.holds c.args.keeper.now) (g.K.Keeper.leaves c.args.keeper.now) (λ held after same. inl same)

pub returns-in-Some-Trial-clause-stopped : goal.returns-in-Some-Trial-clause-stopped
returns-in-Some-Trial-clause-stopped g c = outlives_still (IsLeft largest) (g.K.Keeper.holds c.args.keeper.now) (g.K.Keeper.leaves c.args.keeper.now) (λ held after same. inl same)

pub returns-in-None-clause-stopped : goal.returns-in-None-clause-stopped
returns-in-None-clause-stopped g c = outlives_still (IsLeft largest) (g.K.Keeper.holds c.args.keeper.now) (g.K.Keeper.leaves c.args.keeper.now) (λ held after same. inl same)
