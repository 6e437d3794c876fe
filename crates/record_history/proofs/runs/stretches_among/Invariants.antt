use Rattle.record_history.proofs.Words.{◌≡◌, ◌≤◌, ◌+◌, max, nat_eq, as_of, stretches, number_on}
use Rattle.record_history.proofs.runs.stretches_among.Given as goal

abbrev pub invariant-loop-day : goal.invariant-loop-day
invariant-loop-day l =
    (l.days.items ≡ stretches nat_eq (number_on (as_of l.act l.own.records.items)) l.first l.day) × (l.day ≤ max l.first (l.last + 1))
