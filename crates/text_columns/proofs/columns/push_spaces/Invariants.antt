use Rattle.std.proofs.Common.{◌≡◌, ◌++◌, replicate}
use Rattle.text_columns.proofs.columns.push_spaces.Given as goal

abbrev pub invariant-loop-done : goal.invariant-loop-done
invariant-loop-done l = l.text.items ≡ l.initial.text.items ++ replicate l.done 32
