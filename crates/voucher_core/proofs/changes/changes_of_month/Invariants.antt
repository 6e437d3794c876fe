use Rattle.voucher_core.proofs.Words.{◌≡◌, ◌≤◌, ◌-◌, as_of, records_of, stretches, known_before, change_on, is_same_change}
use Rattle.voucher_core.proofs.changes.changes_of_month.Given as goal

abbrev pub invariant-loop-day : goal.invariant-loop-day
invariant-loop-day l = record {
  from : l.first ≤ l.day;
  to : l.day ≤ l.end;
  days :
      l.runs.items
      ≡ stretches is_same_change (change_on (known_before l.paid_at (records_of l.history.households l.household)) (as_of l.act (records_of l.history.households l.household))) l.first l.day;
}

abbrev pub decreases-loop-day : goal.decreases-loop-day
decreases-loop-day l = l.end - l.day
