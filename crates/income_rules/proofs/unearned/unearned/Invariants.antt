use Rattle.income_rules.proofs.Words.{◌≡◌, sum_by, range_with_len, counted_unearned_of}
use Rattle.income_rules.proofs.unearned.unearned.Given as goal

abbrev pub invariant-loop-number : goal.invariant-loop-number
invariant-loop-number l = l.total ≡ sum_by (counted_unearned_of l.facts) (range_with_len 0 l.number)
