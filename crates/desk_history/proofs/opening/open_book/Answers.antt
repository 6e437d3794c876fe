use Rattle.std.proofs.Common.{rules}
use Rattle.desk_history.proofs.opening.open_book.Goals as goal

pub returns-clause-view : goal.returns-clause-view
returns-clause-view g c = search rules
