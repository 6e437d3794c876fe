use Rattle.std.proofs.Common.{refl}
use Rattle.admission_order.proofs.next.next_if.Goals as goal

pub returns : goal.returns
returns c = simp (c.next_for.ensures, c.list.ensures.waiting, c.limits_on.ensures.value, c.table.ensures.limits) refl
