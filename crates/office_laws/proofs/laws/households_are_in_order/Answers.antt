use Rattle.office_laws.proofs.Placed.{households_are_in_order}
use Rattle.office_laws.proofs.laws.households_are_in_order.Goals as goal

pub returns : goal.returns
returns c = households_are_in_order
