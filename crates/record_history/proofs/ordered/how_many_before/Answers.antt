use Rattle.record_history.proofs.Words.{rules, comes_before}
use Rattle.std.proofs.lemmas.List.Sorted.{IsPartitionPoint-from_clause}
use Rattle.record_history.proofs.OrderedLemmas.{before_parted}
use Rattle.record_history.proofs.ordered.how_many_before.Goals as goal

pub returns-clause-point : goal.returns-clause-point
returns-clause-point c =
    IsPartitionPoint-from_clause (λ r. comes_before r c.args.next.now) _ _ c.partition_point.ensures.partitioned
    (before_parted c.args.live.now c.args.next.now c.requires) (λ a r f called. search rules)
