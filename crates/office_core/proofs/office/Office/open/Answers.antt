use Rattle.std.proofs.Common.{subst}
use Rattle.book_rows.specs.Book.{book_of}
use Rattle.office_answers.specs.Below.office_step.{declared.call.Capacity.Capacity, Step.IsReached}
use Rattle.office_core.proofs.office.Office.open.Goals as goal

pub invariant_of-result : goal.invariant_of-result
invariant_of-result c = record {
  acts = c.requires.acts;
  lines = c.requires.lines;
  reached = subst (λ (capacity : Capacity). IsReached capacity (book_of c.args.tables)) c.in-Ok.ensures.capacity c.in-Ok.ensures.known.reached;
  known = c.in-Ok.ensures.known.known;
  requests = c.in-Ok.ensures.known.requests;
  records = c.in-Ok.ensures.known.records;
}
