use Rattle.rent_table.proofs.Words.{rules, nat_list_cmp_total, IsPartitionPoint-from_clause, name_at, is_before, parted}
use Rattle.rent_table.proofs.lookup.names_before.Goals as goal

pub returns-clause-point : goal.returns-clause-point
returns-clause-point c =
    IsPartitionPoint-from_clause (is_before c.args.units.now c.args.name.now) _ _ c.partition_point.ensures.partitioned
    (parted nat_list_cmp_total (name_at c.args.units.now) c.args.by_name.now c.requires.ordered c.args.name.now) (λ a r f called. search rules)
