use Rattle.wait_list.proofs.Words.{rules, stands_behind}
use Rattle.std.proofs.lemmas.List.Sorted.{IsPartitionPoint-from_clause}
use Rattle.wait_list.proofs.Standing.{parted}
use Rattle.wait_list.proofs.ranking.how_many_before.Goals as goal

pub returns-clause-point : goal.returns-clause-point
returns-clause-point c =
    IsPartitionPoint-from_clause (λ other. stands_behind c.args.applicant.now other) _ _ c.partition_point.ensures.partitioned
    (parted c.args.ranked.now c.args.applicant.now c.requires) (λ a r f called. search rules)
