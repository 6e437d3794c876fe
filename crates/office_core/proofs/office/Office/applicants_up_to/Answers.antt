use Rattle.std.proofs.Common.{arith, nat_le}
use Rattle.std.proofs.lemmas.List.Sums.{length-filter, count_by-le-length}
use Rattle.office_answers.specs.Below.office_step.{declared.known.Application.Application}
use Rattle.book_rows.specs.Book.{book_of}
use Rattle.office_core.proofs.office.Office.applicants_up_to.Goals as goal

pub overflow_cast-result : goal.overflow_cast-result
overflow_cast-result c =
    let few = count_by-le-length (λ (application : Application). nat_le application.act c.args.n) c.applications.result.now in
    omega (arith, few, c.applied_by.ensures, c.applications.ensures.few, c.applications.ensures.few_acts)

pub returns : goal.returns
returns c =
    rw (← c.self.view_is, c.applicant_replies.ensures.count c.self.inside.capacity (book_of c.self.inside.tables) c.self.invariant.reached c.args.n, length-filter)
    (rw (c.applications.ensures.applications, c.self.invariant.known) at c.applied_by.ensures)
