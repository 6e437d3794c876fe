use Rattle.office_laws.proofs.Upheld.{books_are_upheld}
use Rattle.office_laws.proofs.laws.books_are_upheld.Goals as goal

pub returns : goal.returns
returns c =
    books_are_upheld c.rows_came_by_acts.ensures c.closings_are_in_order.ensures.lines c.lines_total_what_is_due.ensures.total
    c.no_unit_is_shared.ensures c.next_is_taken.ensures
