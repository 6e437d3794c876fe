use Rattle.voucher_core.proofs.Words.{◌≡◌, ◌++◌, ◌-◌, [], records_of, known_as_of, lines_for}
use Rattle.voucher_core.proofs.lines.add_month.Given as goal

abbrev pub invariant-loop-household : goal.invariant-loop-household
invariant-loop-household l =
    l.lines.items ≡ l.fn.lines.items ++ lines_for (λ h. []) (known_as_of (records_of l.history.households) l.closing.act) (l.household - 1) l.closing l.closing.closed
