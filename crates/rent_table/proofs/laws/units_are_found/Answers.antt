use Rattle.rent_table.proofs.FoundLemmas.{found_by_number, no_number, found_by_name, no_name}
use Rattle.rent_table.proofs.laws.units_are_found.Goals as goal

pub returns-clause-number : goal.returns-clause-number
returns-clause-number c = found_by_number

pub returns-clause-no_number : goal.returns-clause-no_number
returns-clause-no_number c = no_number

pub returns-clause-name : goal.returns-clause-name
returns-clause-name c = found_by_name

pub returns-clause-no_name : goal.returns-clause-no_name
returns-clause-no_name c = no_name
