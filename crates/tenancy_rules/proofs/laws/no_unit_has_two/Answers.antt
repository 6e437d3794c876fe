use Rattle.tenancy_rules.proofs.UseLaws.{no_unit_has_two, double_use_has_two}
use Rattle.tenancy_rules.proofs.laws.no_unit_has_two.Goals as goal

pub returns-clause-none : goal.returns-clause-none
returns-clause-none c = no_unit_has_two

pub returns-clause-found : goal.returns-clause-found
returns-clause-found c = double_use_has_two
