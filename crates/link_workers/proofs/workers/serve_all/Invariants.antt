use Rattle.link_workers.specs.Links.{IsServedByOne}
use Rattle.link_workers.proofs.workers.serve_all.Given as goal

abbrev pub ghosts-serve_shared : goal.ghosts-serve_shared
ghosts-serve_shared g a = record {
  left = g.L.Listener.left a.listener;
  faults = g.L.Listener.faults a.listener;
  links = g.L.Listener.links a.listener;
  is_made = IsServedByOne g.T.Seat.serves g.T.Seat.follows a.seats.now;
}
