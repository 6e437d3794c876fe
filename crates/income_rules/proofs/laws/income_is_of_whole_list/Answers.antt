use Rattle.income_rules.proofs.WholeListLaw.{earned_is_of_whole_list, unearned_is_of_whole_list, tests_exist}
use Rattle.income_rules.proofs.laws.income_is_of_whole_list.Goals as goal

pub returns-clause-earned : goal.returns-clause-earned
returns-clause-earned c = earned_is_of_whole_list

pub returns-clause-unearned : goal.returns-clause-unearned
returns-clause-unearned c = unearned_is_of_whole_list

pub returns-clause-tests : goal.returns-clause-tests
returns-clause-tests c = tests_exist
