use Rattle.std.proofs.Common.{◌≡◌}
use Rattle.http_session.proofs.Behind.{Behind}
use Rattle.http_session.proofs.session.serve_all.Given as goal

abbrev pub invariant-loop-count : goal.invariant-loop-count
invariant-loop-count g l = record {
  in_order : g.D.Desk.in_order l.desk;
  follows : g.D.Desk.follows l.fn.desk l.desk;
  behind : Behind g.D.Desk.answers l.fn.desk l.desk (g.S.Source.left l.fn.source) (g.S.Source.left l.source)
      (g.W.Sink.held l.fn.sink) (g.W.Sink.held l.sink) l.inbox l.count;
  reads : g.S.Source.faults l.source ≡ g.S.Source.faults l.fn.source;
  writes : g.W.Sink.faults l.sink ≡ g.W.Sink.faults l.fn.sink;
}
