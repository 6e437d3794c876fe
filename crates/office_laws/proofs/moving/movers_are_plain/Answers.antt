use Rattle.office_laws.proofs.Movers.{movers_are_plain, asked_is_plain}
use Rattle.office_laws.proofs.moving.movers_are_plain.Goals as goal

pub returns-clause-movers : goal.returns-clause-movers
returns-clause-movers c = movers_are_plain

pub returns-clause-asked : goal.returns-clause-asked
returns-clause-asked c = asked_is_plain
