use Rattle.rent_table.proofs.StandingLemmas.{row_sets_limits, no_row_sets_limits}
use Rattle.rent_table.proofs.laws.one_row_sets_limits.Goals as goal

pub returns-clause-limits : goal.returns-clause-limits
returns-clause-limits c = row_sets_limits

pub returns-clause-none : goal.returns-clause-none
returns-clause-none c = no_row_sets_limits
