use Rattle.office_laws.proofs.LineOrder.{lines_stand_in_order, lines_name_households}
use Rattle.office_laws.proofs.at_hand.lines_stand_in_order.Goals as goal

pub returns-clause-order : goal.returns-clause-order
returns-clause-order c = lines_stand_in_order

pub returns-clause-households : goal.returns-clause-households
returns-clause-households c = lines_name_households
