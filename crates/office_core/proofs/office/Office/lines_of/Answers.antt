use Rattle.std.proofs.Common.{arith}
use Rattle.voucher_core.specs.declared.line.Line.{Line}
use Rattle.std.specs.Prelude.{◌==◌}
use Rattle.book_rows.specs.Book.{book_of}
use Rattle.office_core.proofs.Found.{filter_few}
use Rattle.office_core.proofs.office.Office.lines_of.Goals as goal

pub returns-clause-few : goal.returns-clause-few
returns-clause-few c =
    let held = c.within_room.ensures.lines c.self.inside.capacity (book_of c.self.inside.tables) c.self.invariant.reached c.self.invariant.lines in
    rw (c.lines_of_act.ensures, c.deref.ensures.value) (omega (arith, held, filter_few (λ (line : Line). line.act == c.args.n) c.self.inside.tables.lines.items))
