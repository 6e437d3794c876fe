use Rattle.line_input.proofs.Ends.{none-found, first-found}
use Rattle.line_input.proofs.reader.end_in.Goals as goal

pub returns-clause-none : goal.returns-clause-none
returns-clause-none c = none-found _ _ c.memchr.ensures

pub returns-clause-some : goal.returns-clause-some
returns-clause-some c = first-found _ _ c.memchr.ensures
