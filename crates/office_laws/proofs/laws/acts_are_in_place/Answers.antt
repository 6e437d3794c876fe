use Rattle.office_laws.proofs.InPlace.{acts_are_in_place}
use Rattle.office_laws.proofs.laws.acts_are_in_place.Goals as goal

pub returns : goal.returns
returns c = acts_are_in_place
