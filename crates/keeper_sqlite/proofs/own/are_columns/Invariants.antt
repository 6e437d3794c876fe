use Rattle.std.proofs.Common.{◌≡◌, ◌↔◌, length, map}
use Rattle.keeper_sqlite.specs.Own.{column_of}
use Rattle.keeper_sqlite.proofs.own.are_columns.Given as goal

abbrev pub invariant-loop-left : goal.invariant-loop-left
invariant-loop-left l = (l.left ≡ map column_of l.named) ↔ (l.columns ≡ map column_of l.wanted)

abbrev pub decreases-loop-left : goal.decreases-loop-left
decreases-loop-left l = length l.left
