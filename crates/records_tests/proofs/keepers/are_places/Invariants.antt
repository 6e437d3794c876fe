use Rattle.std.proofs.Common.{◌≡◌, ◌<◌, ◌≤◌, ◌+◌, ℕ, length, slice_index_or}
use Rattle.voucher_core.specs.declared.line.Line.{Line}
use Rattle.records_tests.proofs.keepers.are_places.Given as goal

abbrev pub invariant-loop-index : goal.invariant-loop-index
invariant-loop-index l = record {
  within : l.index ≤ length l.lines;
  places : (place : ℕ) (d : Line) → place < l.index → (slice_index_or l.lines place d).place ≡ place + 1;
}
