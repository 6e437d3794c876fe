use Rattle.std.proofs.Common.{rules}
use Rattle.keeper_sqlite.proofs.Schemas.{one_item}
use Rattle.keeper_sqlite.proofs.own.is_one.Goals as goal

pub returns : goal.returns
returns c =
    let only = one_item c.args.keys.now c.key-item.result c.in-len1.len_at_least c.in-len1.len_below c.key-item.is in
    (λ h. search (rules, only), λ h. search (rules, only))
