use Rattle.std.proofs.Common.{sym, subst}
use Rattle.link_workers.specs.Seats.{MakesOnly}
use Rattle.link_workers.proofs.workers.serve_each.Goals as goal

pub for_each_mut-requires-clause-accepts : goal.for_each_mut-requires-clause-accepts
for_each_mut-requires-clause-accepts g c = λ _ _ i p within is. (
  subst g.T.Seat.in_order (sym is) (c.requires.in_order i p.now within),
  subst (MakesOnly g.T.Seat.serves g.T.Seat.follows g.B.Start.is_made) (sym is) (c.requires.makes i p.now within),
)
