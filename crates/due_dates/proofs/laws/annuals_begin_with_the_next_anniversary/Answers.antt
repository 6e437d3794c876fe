use Rattle.due_dates.proofs.Words.{◌+◌, arith, lt-leb, month_of, next_anniversary}
use Rattle.due_dates.proofs.RightfulLemmas.{is_next_anniversary}
use Rattle.due_dates.proofs.laws.annuals_begin_with_the_next_anniversary.Goals as goal

pub returns-clause-anniversary : goal.returns-clause-anniversary
returns-clause-anniversary c opening after in_range = is_next_anniversary opening after in_range.1

pub returns-clause-not_overdue : goal.returns-clause-not_overdue
returns-clause-not_overdue c opening after in_range =
    let next = is_next_anniversary opening after in_range.1 in
    lt-leb (month_of after + 15) (month_of (next_anniversary opening after) + 2) (omega (arith, next.within_year))
