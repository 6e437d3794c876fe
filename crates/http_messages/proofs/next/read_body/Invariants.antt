use Rattle.std.proofs.Common.{◌≡◌, ◌-◌, length}
use Rattle.http_heads.specs.Looks.{IsFoundIn}
use Rattle.http_messages.specs.Incoming.{Grows}
use Rattle.http_messages.proofs.next.read_body.Given as goal

abbrev pub invariant-reads : goal.invariant-reads
invariant-reads g l = record {
  grows : Grows l.fn.held l.held (g.S.Source.left l.fn.source) (g.S.Source.left l.source);
  faults : g.S.Source.faults l.source ≡ g.S.Source.faults l.fn.source;
  there : IsFoundIn l.held l.found;
}

abbrev pub decreases-reads : goal.decreases-reads
decreases-reads g l = l.whole - length l.held
