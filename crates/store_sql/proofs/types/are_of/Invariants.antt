use Rattle.std.proofs.Common.{◌≡◌, ◌+◌, length, map}
use Rattle.store_sql.specs.Types.{are_of_from, listed_column}
use Rattle.store_sql.proofs.types.are_of.Given as goal

abbrev pub invariant-loop-left : goal.invariant-loop-left
invariant-loop-left l = (l.at + length l.left ≡ length l.columns) × (are_of_from 0 (map listed_column l.columns) l.row ≡ are_of_from l.at (map listed_column l.left) l.row)

abbrev pub decreases-loop-left : goal.decreases-loop-left
decreases-loop-left l = length l.left
