use Rattle.due_dates.proofs.Words.{◌+◌, arith, le-leb, lt-leb}
use Rattle.due_dates.proofs.RightfulLemmas.{is_month_after, is_first_start}
use Rattle.due_dates.proofs.laws.interims_follow_their_table.Goals as goal

pub returns-clause-in_time_and_higher : goal.returns-clause-in_time_and_higher
returns-clause-in_time_and_higher c dates report_days in_range in_time =
    rw (le-leb dates.notice (dates.event + report_days) in_time) (is_first_start (dates.notice + 30) (omega (arith, in_range.1)))

pub returns-clause-in_time_and_not_higher : goal.returns-clause-in_time_and_not_higher
returns-clause-in_time_and_not_higher c dates report_days in_range in_time =
    rw (le-leb dates.notice (dates.event + report_days) in_time) (is_month_after dates.event in_range.0)

pub returns-clause-late_and_higher : goal.returns-clause-late_and_higher
returns-clause-late_and_higher c dates report_days in_range late =
    rw (lt-leb dates.notice (dates.event + report_days) late) (is_month_after dates.event in_range.0)

pub returns-clause-late_and_not_higher : goal.returns-clause-late_and_not_higher
returns-clause-late_and_not_higher c dates report_days in_range late =
    rw (lt-leb dates.notice (dates.event + report_days) late) (is_month_after dates.done in_range.2)
