use Rattle.book_rows.specs.Book.{book_of}
use Rattle.office_core.proofs.Turns.{stand_in_turn}
use Rattle.office_core.proofs.office.Office.book_lines.Goals as goal

pub invariant_of-result : goal.invariant_of-result
invariant_of-result c =
    let capacity = c.self.inside.capacity in
    let book = book_of c.self.inside.tables in
    let reached = c.self.invariant.reached in
    rw c.deref.ensures.value
    (stand_in_turn book.lines _ (c.within_room.ensures.acts capacity book reached c.self.invariant.acts) (c.lines_stand_in_order.ensures.households capacity book reached)
    (c.lines_stand_in_order.ensures.order capacity book reached))
