use Rattle.office_laws.proofs.Allowed.{acts_are_allowed}
use Rattle.office_laws.proofs.accepting.acts_are_allowed.Goals as goal

pub returns : goal.returns
returns c = acts_are_allowed
