use Rattle.voucher_core.proofs.Words.{nat_le, Record}
use Rattle.std.proofs.Common.{rules}
use Rattle.std.proofs.lemmas.List.Sorted.{IsPartitionPoint-from_clause}
use Rattle.record_history.proofs.OrderedLemmas.{begun_parted}
use Rattle.voucher_core.proofs.starts.how_many_begun.Goals as goal

pub returns-clause-point : goal.returns-clause-point
returns-clause-point c =
    IsPartitionPoint-from_clause (λ (r : Record). nat_le r.from c.args.day) _ _ c.partition_point.ensures.partitioned
    (begun_parted c.args.live.now c.args.day c.requires) (λ a r f called. search rules)
