use Rattle.std.proofs.lemmas.List.{Elements.All-contains_itself}
use Rattle.link_workers.proofs.GivenBack.{logged_otherwise}
use Rattle.link_workers.proofs.workers.serve_all.Goals as goal

pub returns-then-seats-eq1-clause-given_back : goal.returns-then-seats-eq1-clause-given_back
returns-then-seats-eq1-clause-given_back g c =
    logged_otherwise _ _ _ (λ link after served. (_, All-contains_itself c.args.seats.now 0 _ c.requires.some, served)) _ _ c.go_on.ensures.given_back
