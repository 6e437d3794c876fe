use Rattle.office_laws.proofs.Known.{known_after_each}
use Rattle.office_laws.proofs.laws.known_after_each_act.Goals as goal

pub returns : goal.returns
returns c = known_after_each
