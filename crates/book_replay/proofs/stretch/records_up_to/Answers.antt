use Rattle.book_replay.proofs.Words.{rules, nat_le, IsPartitionPoint-from_clause, IsPartitionedBy-leb, never_falls_either}
use Rattle.book_replay.proofs.stretch.records_up_to.Goals as goal

pub returns-clause-point : goal.returns-clause-point
returns-clause-point c =
    IsPartitionPoint-from_clause (λ x. nat_le x.act c.args.n) _ _ c.partition_point.ensures.partitioned
    (IsPartitionedBy-leb (λ x. x.act) _ _ (never_falls_either (λ x. x.act) _ c.requires)) (λ a r f called. search rules)
