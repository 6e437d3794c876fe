use Rattle.office_laws.proofs.AllSound.{acceptance_of_reached_books}
use Rattle.office_laws.proofs.accepting.acceptance_of_reached_books.Goals as goal

pub returns : goal.returns
returns c = acceptance_of_reached_books
