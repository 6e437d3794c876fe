use Rattle.link_workers.proofs.workers.serve_in_turn.Given as goal

abbrev pub invariant-loop : goal.invariant-loop
invariant-loop g l = record {
  more : (goal.iterator-loop g).can_next l.iterator';
  finite : (goal.iterator-loop g).is_finite l.iterator';
  in_order : g.T.Seat.in_order l.seat;
  follows : g.T.Seat.follows l.fn.seat l.seat;
}
