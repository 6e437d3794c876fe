use Rattle.tenancy_rules.proofs.Words.{◌∙◌, sym}
use Rattle.tenancy_rules.proofs.Told.{told_use}
use Rattle.tenancy_rules.proofs.uses.is_told.Goals as goal

pub returns : goal.returns
returns c is = told_use c.args.uses.now c.args.used (rw c.of_unit.ensures at (sym c.contains.ensures.value ∙ is))
