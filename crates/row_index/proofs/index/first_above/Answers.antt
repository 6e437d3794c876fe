use Rattle.row_index.proofs.Words.{rules, IsPartitionPoint-from_clause, IsPartitionedBy-leb, nat_le}
use Rattle.row_index.proofs.index.first_above.Goals as goal

pub returns-clause-point : goal.returns-clause-point
returns-clause-point c =
    IsPartitionPoint-from_clause (λ e. nat_le e.key c.args.key) _ _ c.partition_point.ensures.partitioned
    (IsPartitionedBy-leb (λ e. e.key) _ _ c.requires) (λ a r f called. search rules)
