use Rattle.voucher_core.proofs.Words.{◌≡◌, ◌++◌, take, map, flat_map, records_of, month_lines, known_as_of, touched_household}
use Rattle.voucher_core.proofs.lines.add_changed.Given as goal

abbrev pub invariant-loop-touched : goal.invariant-loop-touched
invariant-loop-touched l =
    l.lines.items
    ≡ l.fn.lines.items ++ flat_map (λ h. month_lines l.closing h l.month (known_as_of (records_of l.history.households) l.closing.last_close h) (known_as_of (records_of l.history.households) l.closing.act h)) (map touched_household (take l.touched-index l.changed))
