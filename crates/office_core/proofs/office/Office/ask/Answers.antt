use Rattle.office_core.proofs.office.Office.ask.Goals as goal

pub returns : goal.returns
returns c = rw (← c.self.view_is, ← c.self.invariant.known) (rw (c.book_lines.ensures, ← c.self.view_is) at c.answer_to.ensures)
