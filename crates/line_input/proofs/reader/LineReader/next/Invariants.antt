use Rattle.std.proofs.Common.{◌≡◌, ◌+◌, ◌-◌, false, length}
use Rattle.std.specs.Io.KnownBytes.{Keeps, prepend_known}
use Rattle.line_input.specs.Lines.{has_end}
use Rattle.line_input.proofs.reader.LineReader.next.Given as goal

abbrev pub invariant-loop-self : goal.invariant-loop-self
invariant-loop-self g l = record {
  endless : has_end l.self.rest ≡ false;
  kept : Keeps (prepend_known l.fn.self.rest (g.S.Source.left l.fn.source)) (prepend_known l.self.rest (g.S.Source.left l.source));
  faults : g.S.Source.faults l.source ≡ g.S.Source.faults l.fn.source;
}

abbrev pub decreases-loop-self : goal.decreases-loop-self
decreases-loop-self g l = l.most + 1 - length l.self.rest
