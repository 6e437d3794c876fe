use Rattle.tenancy_rules.proofs.Words.{nat_le}
use Rattle.std.proofs.Common.{rules}
use Rattle.std.proofs.lemmas.List.Sorted.{IsPartitionPoint-from_clause, IsPartitionedBy-leb}
use Rattle.tenancy_rules.proofs.uses.first_above.Goals as goal

pub returns-clause-point : goal.returns-clause-point
returns-clause-point c =
    IsPartitionPoint-from_clause (λ used. nat_le used.unit c.args.unit) _ _ c.partition_point.ensures.partitioned
    (IsPartitionedBy-leb (λ used. used.unit) _ _ c.requires) (λ a r f called. search rules)
