use Rattle.std.specs.Prelude.{◌≡◌, sum_by}
use Rattle.std.specs.List.{range_with_len}
use Rattle.facts_core.specs.declared.members.Member.{Member}
use Rattle.deduction_rules.proofs.Bounds.{share_of}
use Rattle.deduction_rules.proofs.earners.earned_by_cared.Given as goal

abbrev pub invariant-loop-number : goal.invariant-loop-number
invariant-loop-number l = l.total ≡ sum_by (share_of (λ (member : Member). member.cared) l.facts l.day) (range_with_len 0 l.number)
