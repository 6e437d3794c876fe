use Rattle.office_laws.proofs.AllSound.{reached_books_are_sound}
use Rattle.office_laws.proofs.accepting.reached_books_are_sound.Goals as goal

pub returns : goal.returns
returns c = reached_books_are_sound
