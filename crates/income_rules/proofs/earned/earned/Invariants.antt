use Rattle.income_rules.proofs.Words.{◌≡◌, sum_by, range_with_len, counted_earned_of}
use Rattle.income_rules.proofs.earned.earned.Given as goal

abbrev pub invariant-loop-number : goal.invariant-loop-number
invariant-loop-number l = l.total ≡ sum_by (λ number. counted_earned_of l.facts number l.day) (range_with_len 0 l.number)
