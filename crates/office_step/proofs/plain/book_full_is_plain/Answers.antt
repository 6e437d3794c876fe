use Rattle.office_step.proofs.Exactly.Planned.{book_full_is_plain}
use Rattle.office_step.proofs.plain.book_full_is_plain.Goals as goal

pub returns : goal.returns
returns c = book_full_is_plain
