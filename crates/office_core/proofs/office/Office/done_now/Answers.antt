use Rattle.std.proofs.Common.{refl}
use Rattle.book_rows.specs.Book.{book_of}
use Rattle.office_core.proofs.office.Office.done_now.Goals as goal

pub returns : goal.returns
returns c =
    let planned = rw (← c.self.view_is, ← c.step.view_is) at c.requires in
    rw (
      c.made_now-made.ensures,
      ← c.self.view_is,
      ← c.step.view_is,
      c.new_replies.ensures c.self.inside.capacity (book_of c.self.inside.tables) c.step.inside.batch c.self.invariant.reached planned.appends,
      planned.asked,
    ) refl
