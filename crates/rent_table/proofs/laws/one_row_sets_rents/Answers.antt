use Rattle.rent_table.proofs.StandingLemmas.{row_sets_rents, no_row_sets_rents}
use Rattle.rent_table.proofs.laws.one_row_sets_rents.Goals as goal

pub returns-clause-rents : goal.returns-clause-rents
returns-clause-rents c = row_sets_rents

pub returns-clause-none : goal.returns-clause-none
returns-clause-none c = no_row_sets_rents
