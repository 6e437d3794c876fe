use Rattle.office_laws.proofs.Reached.{books_are_kept}
use Rattle.office_laws.proofs.laws.books_are_kept.Goals as goal

pub returns : goal.returns
returns c = books_are_kept
