use Rattle.std.proofs.Common.{rules}
use Rattle.keeper_sqlite.proofs.Schemas.{three_items}
use Rattle.keeper_sqlite.proofs.own.are_tables.Goals as goal

pub returns-then-is_table-2 : goal.returns-then-is_table-2
returns-then-is_table-2 c =
    let all = three_items c.args.tables.now c.acts-item.result c.records-item.result c.lines-item.result c.in-len3.len_at_least c.in-len3.len_below c.acts-item.is c.records-item.is c.lines-item.is in
    (λ h. search (rules, all), λ h. search (rules, all))
