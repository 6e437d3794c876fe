use Rattle.voucher_core.proofs.Words.{◌≡◌, ◌++◌, take, drop, placed}
use Rattle.voucher_core.proofs.lines.number_lines.Given as goal

abbrev pub invariant-loop-at : goal.invariant-loop-at
invariant-loop-at l = l.lines.items ≡ placed 1 (take l.at l.fn.lines.items) ++ drop l.at l.fn.lines.items
