use Rattle.std.proofs.Common.{rules}
use Rattle.voucher_core.proofs.Counted.{first_behind}
use Rattle.voucher_core.proofs.starts.next_in_order.Goals as goal

pub returns-in-Some-clause-apart : goal.returns-in-Some-clause-apart
returns-in-Some-clause-apart c =
    first_behind c.args.live.now c.args.day c.min.result c.how_many_begun.result c.requires.in_order c.how_many_begun.ensures.point
    (λ d within. search rules)
