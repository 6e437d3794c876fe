use Rattle.std.specs.Prelude.{◌≡◌, ◌≤◌, All, map, length, vec_capacity}
use Rattle.office_server.proofs.seats.seats_by.Given as goal

abbrev pub invariant-loop-pass : goal.invariant-loop-pass
invariant-loop-pass g l = record {
  passes : map (λ seat. seat.pass) l.seats.items ≡ l.yielded;
  count : length l.seats.items ≡ length l.yielded;
  clock : All (λ seat. seat.clock.now ≡ l.fn.clock) l.seats.items;
  room : length l.fn.passes.items ≤ vec_capacity l.seats;
}
