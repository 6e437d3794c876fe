use Rattle.wait_list.proofs.Words.{◌∙◌, ap, IsSize, asked_by}
use Rattle.wait_list.specs.Next.{next_candidate}
use Rattle.wait_list.proofs.Standing.{of_ranked, same_next}
use Rattle.wait_list.proofs.list.WaitList.next_for.Goals as goal

pub next_among-requires-clause-sizes : goal.next_among-requires-clause-sizes
next_among-requires-clause-sizes c =
    rw c.deref.ensures.value
    (of_ranked (λ applicant. IsSize applicant.size) c.self.inside.applicants.items c.self.inside.ranked.items c.self.invariant.ranking.only c.self.invariant.list.sizes)

pub returns : goal.returns
returns c =
    let asked = asked_by c.args.ask.now in
    rw c.deref.ensures.value at c.next_among.ensures
    ∙ same_next asked c.self.inside.applicants.items c.self.inside.ranked.items c.self.invariant.list.acts c.self.invariant.ranking
    ∙ ap (λ list. next_candidate asked list.applicants) c.self.view_is
