use Rattle.wait_list.proofs.Words.{◌≡◌, ap, ◌<◌}
use Rattle.wait_list.proofs.Standing.{of_ranked, sound-push, ranking-push}
use Rattle.wait_list.proofs.list.WaitList.push.Goals as goal

pub put_in-requires-clause-act : goal.put_in-requires-clause-act
put_in-requires-clause-act c =
    let same : c.self.inside.applicants.items ≡ c.args.self.now.applicants = ap (λ list. list.applicants) c.self.view_is in
    of_ranked (λ earlier. earlier.act < c.args.applicant.act) c.self.inside.applicants.items c.self.inside.ranked.items c.self.invariant.ranking.only
    (rw same c.requires.act)

pub invariant_of-self : goal.invariant_of-self
invariant_of-self c =
    let same : c.self.inside.applicants.items ≡ c.args.self.now.applicants = ap (λ list. list.applicants) c.self.view_is in
    rw c.push_reserved.ensures.items (record {
      list = sound-push c.self.inside.applicants.items c.args.applicant c.self.invariant.list (rw same c.requires.number) (rw same c.requires.act)
          c.requires.least_size c.requires.most_size;
      ranking = ranking-push c.self.inside.applicants.items c.self.inside.ranked.items c.put_in.new.ranked.items c.args.applicant c.self.invariant.ranking
          c.put_in.ensures.all c.put_in.ensures.in_order;
    })
