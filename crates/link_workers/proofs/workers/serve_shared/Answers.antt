use Rattle.link_workers.proofs.workers.serve_shared.Goals as goal

pub returns-clause-given_back : goal.returns-clause-given_back
returns-clause-given_back g c = c.finish.ensures.given_back _ c.requires.makes c.serve_each.ensures.follows
