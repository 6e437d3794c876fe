use Rattle.voucher_core.proofs.Words.{◌≡◌, ◌++◌, pos, not, filter, map, take, int_eq, as_of, records_of, known_before, line_of}
use Rattle.voucher_core.proofs.lines.add_household.Given as goal

abbrev pub invariant-loop-run : goal.invariant-loop-run
invariant-loop-run l =
    l.lines.items
    ≡ l.fn.lines.items
    ++ filter (λ line. not (int_eq line.amount (pos 0)))
    (map (line_of l.closing l.household l.month (known_before l.fn.paid_at (records_of l.history.households l.household)) (as_of l.closing.act (records_of l.history.households l.household))) (take l.run-index l.found))
