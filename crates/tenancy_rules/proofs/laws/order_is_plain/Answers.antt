use Rattle.tenancy_rules.proofs.InPlace.{order_is_plain, move_out_is_last, fault_is_first}
use Rattle.tenancy_rules.proofs.laws.order_is_plain.Goals as goal

pub returns-clause-none : goal.returns-clause-none
returns-clause-none c = order_is_plain

pub returns-clause-move_out : goal.returns-clause-move_out
returns-clause-move_out c = move_out_is_last

pub returns-clause-fault : goal.returns-clause-fault
returns-clause-fault c = fault_is_first
