use Rattle.std.proofs.Common.{rules, ◌-◌, length, drop, arith, length-drop}
use Rattle.std.proofs.lemmas.List.{take_all}
use Rattle.std.proofs.lemmas.List.Sorted.{IsPartitionPoint-from_clause}
use Rattle.voucher_core.proofs.Words.{nat_le, Record}
use Rattle.voucher_core.proofs.Newer.{known_first, rest_later}
use Rattle.voucher_core.proofs.touched.made_after.Goals as goal

pub returns : goal.returns
returns c =
    let records = c.args.records.now in
    let known = c.partition_point-known.result in
    let rest = take_all (length records - known) (drop known records) (omega (arith, length-drop known records)) in
    rw rest (rest_later records c.args.last_close known c.partition_point-known.ensures.bound
    (IsPartitionPoint-from_clause (λ (r : Record). nat_le r.act c.args.last_close) _ _ c.partition_point-known.ensures.partitioned
    (known_first records c.args.last_close c.requires) (λ a r f called. search rules)))
