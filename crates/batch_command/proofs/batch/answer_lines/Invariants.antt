use Rattle.std.proofs.Common.{◌≡◌, List, length}
use Rattle.std.specs.Io.KnownBytes.{prepend_known}
use Rattle.keeper_core.specs.Keeping.{LeavesTold}
use Rattle.clerk_desk.specs.OpenBook.{StaysOpen}
use Rattle.batch_command.specs.Output.{Given}
use Rattle.batch_command.proofs.SoFar.{SoFar}
use Rattle.batch_command.proofs.batch.answer_lines.Given as goal

abbrev pub invariant-loop : goal.invariant-loop
invariant-loop g l = record {
  answered : (given : List Given) × (length given ≡ l.counter) × SoFar l.fn.office.capacity (g.C.Clock.may_show l.fn.clock) l.fn.office.book l.office.book
      (g.S.Source.left l.fn.source) (prepend_known l.reader.rest (g.S.Source.left l.source)) (g.W.Sink.held l.fn.sink) (g.W.Sink.held l.sink) given;
  stays : StaysOpen g.K.Keeper l.fn.office l.fn.keeper l.office l.keeper;
  sound : (g.K.Keeper.tells_crash l.fn.keeper → LeavesTold (g.K.Keeper.holds l.fn.keeper) (g.K.Keeper.leaves l.fn.keeper))
      → g.K.Keeper.tells_crash l.keeper → LeavesTold (g.K.Keeper.holds l.keeper) (g.K.Keeper.leaves l.keeper);
  source : g.S.Source.faults l.source ≡ g.S.Source.faults l.fn.source;
  sink : g.W.Sink.faults l.sink ≡ g.W.Sink.faults l.fn.sink;
  keeper : g.K.Keeper.faults l.keeper ≡ g.K.Keeper.faults l.fn.keeper;
}
