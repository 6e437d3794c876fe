use Rattle.days_core.specs.OfficeDays.{last_office_day}
use Rattle.due_dates.specs.Stale.{is_rent_stale_on}
use Rattle.due_dates.proofs.LeastLemmas.{least_that-says}
use Rattle.due_dates.proofs.laws.gross_changes_begin_when_rents_are_stale.Goals as goal

pub returns-clause-gross_day : goal.returns-clause-gross_day
returns-clause-gross_day c records units rows = least_that-says (is_rent_stale_on records units rows) 0 last_office_day

pub returns-clause-rent_due_day : goal.returns-clause-rent_due_day
returns-clause-rent_due_day c records units rows first last = least_that-says (is_rent_stale_on records units rows) first last
