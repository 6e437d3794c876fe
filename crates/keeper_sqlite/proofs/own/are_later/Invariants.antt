use Rattle.std.proofs.Common.{◌≡◌, length}
use Rattle.store_sql.specs.Schema.{are_later}
use Rattle.keeper_sqlite.proofs.own.are_later.Given as goal

abbrev pub invariant-loop-left : goal.invariant-loop-left
invariant-loop-left l = are_later l.tree l.left ≡ are_later 5 l.tables

abbrev pub decreases-loop-left : goal.decreases-loop-left
decreases-loop-left l = length l.left
