use Rattle.std.proofs.Common.{sym}
use Rattle.office_acts.proofs.closing.lines_of_close.Goals as goal

pub returns-in-Some-clause-lines : goal.returns-in-Some-clause-lines
returns-in-Some-clause-lines c =
    rw (sym c.in-Some.ensures.plan) (rw (c.closing_by-closing.ensures.value, c.history.ensures.households) at c.close_lines.ensures.lines)
