use Rattle.http_messages.proofs.Cuttings.{settled_by_the_front_lem}
use Rattle.http_messages.proofs.laws.settled_by_the_front.Goals as goal

pub returns : goal.returns
returns c = settled_by_the_front_lem
