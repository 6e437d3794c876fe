use Rattle.due_dates.proofs.Words.{◌+◌, arith, le-leb, lt-leb, month_of, next_anniversary}
use Rattle.due_dates.proofs.RightfulLemmas.{is_next_anniversary, a_year_later}
use Rattle.due_dates.proofs.laws.annuals_leave_three_months.Goals as goal

pub returns-clause-before : goal.returns-clause-before
returns-clause-before c opening after month in_range early =
    lt-leb (month_of after + 15) month (omega (arith, early, (is_next_anniversary opening after in_range.1).within_year))

pub returns-clause-from_the_third : goal.returns-clause-from_the_third
returns-clause-from_the_third c opening after month in_range same late =
    le-leb (month_of after + 15) month (omega (arith, late, a_year_later opening after _ in_range.1 (is_next_anniversary opening after in_range.1) same))

pub returns-clause-renewed : goal.returns-clause-renewed
returns-clause-renewed c opening after month in_range early =
    lt-leb (month_of (next_anniversary opening after) + 15) month (omega (arith, early))

pub returns-clause-renewed_no_longer : goal.returns-clause-renewed_no_longer
returns-clause-renewed_no_longer c opening after month in_range late = le-leb (month_of (next_anniversary opening after) + 15) month late
