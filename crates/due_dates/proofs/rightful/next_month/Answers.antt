use Rattle.std.proofs.Common.{arith}
use Rattle.due_dates.proofs.MonthLemmas.{month_of_by}
use Rattle.due_dates.proofs.rightful.next_month.Goals as goal

pub month_start-requires : goal.month_start-requires
month_start-requires c = omega (arith, month_of_by c.args.day c.requires, c.month_of.ensures, c.number.ensures.value)
