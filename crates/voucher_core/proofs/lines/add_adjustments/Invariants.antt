use Rattle.voucher_core.proofs.Words.{◌≡◌, ◌≤◌, ◌++◌, ◌-◌, max, length, range_with_len, flat_map, records_of, known_as_of, lines_for}
use Rattle.voucher_core.proofs.lines.add_adjustments.Given as goal

abbrev pub invariant-loop-month : goal.invariant-loop-month
invariant-loop-month l = record {
  lines :
      l.lines.items
      ≡ l.fn.lines.items
      ++ flat_map (lines_for (known_as_of (records_of l.history.households) l.closing.last_close) (known_as_of (records_of l.history.households) l.closing.act) (length l.history.households) l.closing) (range_with_len l.closing.first_month (l.month - l.closing.first_month));
  within : l.month ≤ max l.closing.first_month l.closing.closed;
}
