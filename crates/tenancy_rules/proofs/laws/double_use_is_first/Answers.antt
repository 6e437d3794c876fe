use Rattle.tenancy_rules.proofs.FirstUse.{double_use_is_first, no_double_use}
use Rattle.tenancy_rules.proofs.laws.double_use_is_first.Goals as goal

pub returns-clause-found : goal.returns-clause-found
returns-clause-found c = double_use_is_first

pub returns-clause-none : goal.returns-clause-none
returns-clause-none c = no_double_use
