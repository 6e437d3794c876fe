use Rattle.due_dates.proofs.{Words.nat_lt, ReviewLemmas.firsts_rise}
use Rattle.std.proofs.Common.{rules}
use Rattle.std.proofs.lemmas.List.Sorted.{IsPartitionPoint-from_clause, IsPartitionedBy-ltb}
use Rattle.record_history.specs.declared.records.Record.{Record}
use Rattle.due_dates.proofs.review.how_many_before.Goals as goal

pub returns-clause-point : goal.returns-clause-point
returns-clause-point c =
    IsPartitionPoint-from_clause (λ (r : Record). nat_lt r.from c.args.day) _ _ c.partition_point.ensures.partitioned
    (IsPartitionedBy-ltb (λ (r : Record). r.from) _ _ (firsts_rise c.args.live.now c.requires)) (λ a r f called. search rules)
