use Rattle.facts_core.proofs.FactsStand.{facts_stand}
use Rattle.facts_core.proofs.json.facts_read_back.Goals as goal

pub returns : goal.returns
returns c = λ facts fits. (facts_stand facts fits).again
