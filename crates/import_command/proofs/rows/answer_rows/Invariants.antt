use Rattle.std.proofs.Common.{◌≡◌}
use Rattle.keeper_core.specs.Keeping.{LeavesTold}
use Rattle.batch_command.specs.Below.clerk_desk.OpenBook.{StaysOpen}
use Rattle.import_command.proofs.SoFar.{SoFar}
use Rattle.import_command.proofs.rows.answer_rows.Given as goal

abbrev pub invariant-loop-row : goal.invariant-loop-row
invariant-loop-row g l = record {
  answered : SoFar l.fn.office.capacity (g.C.Clock.may_show l.fn.clock) l.fn.office.book l.office.book (g.W.Sink.held l.fn.sink) (g.W.Sink.held l.sink) l.yielded;
  stays : StaysOpen g.K.Keeper l.fn.office l.fn.keeper l.office l.keeper;
  sound : (g.K.Keeper.tells_crash l.fn.keeper → LeavesTold (g.K.Keeper.holds l.fn.keeper) (g.K.Keeper.leaves l.fn.keeper))
      → g.K.Keeper.tells_crash l.keeper → LeavesTold (g.K.Keeper.holds l.keeper) (g.K.Keeper.leaves l.keeper);
  sink : g.W.Sink.faults l.sink ≡ g.W.Sink.faults l.fn.sink;
  keeper : g.K.Keeper.faults l.keeper ≡ g.K.Keeper.faults l.fn.keeper;
}
