use Rattle.tenancy_rules.proofs.Words.{is_before}
use Rattle.std.proofs.Common.{rules}
use Rattle.std.proofs.lemmas.List.Sorted.{IsPartitionPoint-from_clause}
use Rattle.tenancy_rules.proofs.Ordered.{before_parted}
use Rattle.tenancy_rules.proofs.changed.how_many_before.Goals as goal

pub returns-clause-point : goal.returns-clause-point
returns-clause-point c =
    IsPartitionPoint-from_clause (is_before c.args.day c.args.number) _ _ c.partition_point.ensures.partitioned
    (before_parted c.args.live.now c.args.day c.args.number c.requires) (λ a r f called. search rules)
