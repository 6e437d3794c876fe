use Rattle.office_laws.proofs.Turns.{turns_are_plain}
use Rattle.office_laws.proofs.accepting.turns_are_plain.Goals as goal

pub returns : goal.returns
returns c = turns_are_plain
