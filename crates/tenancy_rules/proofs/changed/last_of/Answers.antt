use Rattle.tenancy_rules.proofs.Words.{◌∙◌}
use Rattle.tenancy_rules.proofs.Ordered.{last_latest}
use Rattle.tenancy_rules.proofs.changed.last_of.Goals as goal

pub returns : goal.returns
returns c = c.last.ensures.value ∙ last_latest c.args.records.now c.requires
