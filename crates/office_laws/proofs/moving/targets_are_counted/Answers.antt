use Rattle.office_laws.proofs.Targets.{targets_are_counted}
use Rattle.office_laws.proofs.moving.targets_are_counted.Goals as goal

pub returns : goal.returns
returns c = targets_are_counted
