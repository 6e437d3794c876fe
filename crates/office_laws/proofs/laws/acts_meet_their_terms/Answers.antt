use Rattle.office_laws.proofs.Terms.{acts_meet_their_terms}
use Rattle.office_laws.proofs.laws.acts_meet_their_terms.Goals as goal

pub returns : goal.returns
returns c = acts_meet_their_terms
