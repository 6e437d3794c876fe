use Rattle.std.proofs.Common.{◌≤◌, ◌++◌, arith, ap, length, subst, length-append}
use Rattle.voucher_core.specs.declared.line.Line.{Line}
use Rattle.book_rows.specs.Book.{appended}
use Rattle.office_answers.specs.Below.office_step.Step.{IsReached, reached_more}
use Rattle.office_core.specs.{Office.Holding, Planned.Planned}
use Rattle.office_core.proofs.office.Office.lines_planned.Goals as goal

pub returns-clause-few : goal.returns-clause-few
returns-clause-few c =
    let reached = subst (λ (h : Holding). IsReached h.capacity h.book) c.self.view_is c.self.invariant.reached in
    let most = subst (λ (h : Holding). h.capacity.lines ≤ 4000000) c.self.view_is c.self.invariant.lines in
    let held : length (c.args.self.now.book.lines ++ c.args.step.now.rows.lines) ≤ 4000000 =
    c.within_room.ensures.lines c.args.self.now.capacity (appended c.args.self.now.book c.args.step.now.rows) (reached_more reached c.requires.appends) most in
    let same = ap (length {A = Line}) c.as_slice.ensures in
    let planned = ap (λ (step : Planned). length step.rows.lines) c.step.view_is in
    omega (arith, held, length-append c.args.self.now.book.lines c.args.step.now.rows.lines, same, planned)
