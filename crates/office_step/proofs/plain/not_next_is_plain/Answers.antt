use Rattle.office_step.proofs.Exactly.Turns.{not_next_is_plain}
use Rattle.office_step.proofs.plain.not_next_is_plain.Goals as goal

pub returns : goal.returns
returns c = not_next_is_plain
