use Rattle.office_step.proofs.Exactly.Named.{no_such_is_plain}
use Rattle.office_step.proofs.plain.no_such_is_plain.Goals as goal

pub returns : goal.returns
returns c = no_such_is_plain
