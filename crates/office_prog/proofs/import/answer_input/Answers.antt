use Rattle.std.proofs.Common.{Some, inl}
use Rattle.import_command.specs.Rows.{LeavesByRow}
use Rattle.office_prog.specs.Import.{LeavesByInput}
use Rattle.import_command.proofs.Below.clerk_desk.Staying.{stays}
use Rattle.office_prog.proofs.Stops.{rows_of_input, outlives_as, outlives_still}
use Rattle.office_prog.proofs.import.answer_input.Goals as goal

pub returns-in-Ok-clause-stopped : goal.returns-in-Ok-clause-stopped
returns-in-Ok-clause-stopped g c =
    outlives_as (LeavesByRow c.args.office.now.capacity (g.C.Clock.may_show c.args.clock.now) c.in-Ok.rows.items) (LeavesByInput c.args.clerk (g.C.Clock.may_show c.args.clock.now) (Some c.args.input.now))
    (g.K.Keeper.holds c.args.keeper.now) (g.K.Keeper.holds c.answer_rows.new.keeper) (g.K.Keeper.leaves c.args.keeper.now) (g.K.Keeper.leaves c.answer_rows.new.keeper)
    (rows_of_input c.args.clerk (g.C.Clock.may_show c.args.clock.now) c.args.office.now.capacity c.args.input.now c.in-Ok.rows.items c.requires.capacity c.in-Ok.ensures.rows) c.answer_rows.ensures.stopped

pub returns-in-Err-BadHeader-clause-stays : goal.returns-in-Err-BadHeader-clause-stays
returns-in-Err-BadHeader-clause-stays g c = stays g.K.Keeper _ _ c.requires.told

pub returns-in-Err-BadHeader-clause-stopped : goal.returns-in-Err-BadHeader-clause-stopped
returns-in-Err-BadHeader-clause-stopped g c = outlives_still (LeavesByInput c.args.clerk (g.C.Clock.may_show c.args.clock.now) (Some c.args.input.now)) (g.K.Keeper.holds c.args.keeper.now) (g.K.Keeper.leaves c.args.keeper.now) (λ held after same. inl same)

pub returns-in-Err-NoMemory-clause-stays : goal.returns-in-Err-NoMemory-clause-stays
returns-in-Err-NoMemory-clause-stays g c = stays g.K.Keeper _ _ c.requires.told

pub returns-in-Err-NoMemory-clause-stopped : goal.returns-in-Err-NoMemory-clause-stopped
returns-in-Err-NoMemory-clause-stopped g c = outlives_still (LeavesByInput c.args.clerk (g.C.Clock.may_show c.args.clock.now) (Some c.args.input.now)) (g.K.Keeper.holds c.args.keeper.now) (g.K.Keeper.leaves c.args.keeper.now) (λ held after same. inl same)
