use Rattle.due_dates.proofs.Words.{◌≡◌, ◌+◌, arith, month_of, has_anniversary_after}
use Rattle.due_dates.proofs.MonthLemmas.{first_month_that-is, anniversary, wait_of, month_of_by}
use Rattle.due_dates.proofs.rightful.next_anniversary.Goals as goal

pub month_start-requires : goal.month_start-requires
month_start-requires c = omega (arith, month_of_by c.args.after (omega arith), c.month_of.ensures, c.number-next.ensures.value)

pub returns : goal.returns
returns c =
    let after : c.number-next.result ≡ month_of c.args.after = cc in
    let opening : c.number.result ≡ month_of c.args.opening = cc in
    rw (first_month_that-is (has_anniversary_after c.args.opening c.args.after) (month_of c.args.after + 1 + wait_of c.args.opening c.args.after)
    (anniversary c.args.opening c.args.after c.requires))
    (rw (← after, ← opening) c.month_start.ensures)
