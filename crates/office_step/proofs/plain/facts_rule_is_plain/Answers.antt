use Rattle.office_step.proofs.Exactly.Facts.{facts_rule_is_plain}
use Rattle.office_step.proofs.plain.facts_rule_is_plain.Goals as goal

pub returns : goal.returns
returns c = facts_rule_is_plain
