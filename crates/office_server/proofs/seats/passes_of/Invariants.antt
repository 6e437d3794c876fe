use Rattle.std.specs.Prelude.{◌≡◌, ◌≤◌, length, vec_capacity}
use Rattle.shared_desk.specs.Passes.{AreFresh}
use Rattle.office_server.proofs.seats.passes_of.Given as goal

abbrev pub invariant-loop-place : goal.invariant-loop-place
invariant-loop-place g l = record {
  start : l.desk.start ≡ l.initial.desk.start;
  made : l.desk.made ≡ l.place;
  fresh : AreFresh l.initial.desk.start 1 l.passes.items;
  count : length l.passes.items ≡ l.place;
  room : l.workers ≤ vec_capacity l.passes;
}
