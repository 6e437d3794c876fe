use Rattle.std.proofs.Common.{◌≡◌}
use Rattle.link_workers.specs.Links.{IsLogged, IsServedFrom, KnowsStill, TellsBack}
use Rattle.link_workers.proofs.SoFar.{SoFar}
use Rattle.link_workers.proofs.alone.serve_links.Given as goal

abbrev pub invariant-loop-source : goal.invariant-loop-source
invariant-loop-source g l = record {
  served : SoFar g.T.Seat.serves l.fn.seat l.seat
      (g.L.Listener.left l.fn.listener) (g.L.Listener.left l.listener) (g.L.Listener.links l.fn.listener) (g.L.Listener.links l.listener);
  given_back : TellsBack (IsLogged (IsServedFrom g.T.Seat.serves g.T.Seat.follows l.fn.seat) (g.T.Seat.knows l.log)) (g.L.Listener.links l.fn.listener) (g.L.Listener.links l.listener);
  unfaulted : g.L.Listener.faults l.listener ≡ g.L.Listener.faults l.fn.listener;
  knows_still : KnowsStill (g.T.Seat.knows l.fn.log) (g.T.Seat.knows l.log);
  in_order : g.T.Seat.in_order l.seat;
  follows : g.T.Seat.follows l.fn.seat l.seat;
}

abbrev pub decreases-loop-source : goal.decreases-loop-source
decreases-loop-source g l = g.L.Listener.left l.listener
