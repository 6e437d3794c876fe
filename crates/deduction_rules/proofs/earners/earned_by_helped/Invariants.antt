use Rattle.std.specs.Prelude.{◌≡◌, sum_by}
use Rattle.std.specs.List.{range_with_len}
use Rattle.deduction_rules.specs.Deductions.{is_helped_adult}
use Rattle.deduction_rules.proofs.Bounds.{share_of}
use Rattle.deduction_rules.proofs.earners.earned_by_helped.Given as goal

abbrev pub invariant-loop-number : goal.invariant-loop-number
invariant-loop-number l = l.total ≡ sum_by (share_of (is_helped_adult l.day) l.facts l.day) (range_with_len 0 l.number)
