use Rattle.desk_history.proofs.Following.{held_books_grow}
use Rattle.desk_history.proofs.laws.held_books_grow.Goals as goal

pub returns : goal.returns
returns c = held_books_grow
