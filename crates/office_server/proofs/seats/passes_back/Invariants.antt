use Rattle.std.specs.Prelude.{◌≡◌, ◌≤◌, map, length, vec_capacity}
use Rattle.office_server.proofs.seats.passes_back.Given as goal

abbrev pub invariant-loop-seat : goal.invariant-loop-seat
invariant-loop-seat g l = record {
  passes : l.passes.items ≡ map (λ seat. seat.pass) l.yielded;
  room : length l.fn.seats.items ≤ vec_capacity l.passes;
}
