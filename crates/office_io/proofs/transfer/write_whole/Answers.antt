use Rattle.std.proofs.Common.{rules}
use Rattle.office_io.proofs.Moves.{Appends-next}
use Rattle.office_io.proofs.transfer.write_whole.Goals as goal

pub loop-done-preserved : goal.loop-done-preserved
loop-done-preserved g c = record {
  within = search rules;
  written = Appends-next _ _ _ c.loop-done.done c.in-Bytes.count c.args.piece.now c.loop-done.invariant.written c.in-Bytes.ensures.bytes.2;
  kept = search rules;
}
