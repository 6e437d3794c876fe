use Rattle.std.proofs.Common.{arith}
use Rattle.link_workers.proofs.GivenBack.{logged_still, makes_each, tells_joins}
use Rattle.link_workers.proofs.workers.finish.Goals as goal

pub returns-in_default-true-default-clause-given_back : goal.returns-in_default-true-default-clause-given_back
returns-in_default-true-default-clause-given_back g c = λ first makes goes. c.into_parts.ensures.given_back

pub returns-in_default-false-default-clause-given_back : goal.returns-in_default-false-default-clause-given_back
returns-in_default-false-default-clause-given_back g c = λ first makes goes.
    let some = c.requires.some in
    let each = makes_each g.T.Seat.serves g.T.Seat.follows (λ seat mid seat_now before after. g.met.T.Seat.joins seat mid seat_now before after)
    g.B.Start.is_made first _ goes makes in
    tells_joins _ _ (λ link logged. (logged.0, each _ _ (omega (arith, some)) link logged.0 logged.1, logged.2)) _ _ _
    (logged_still _ _ _ c.go_on.ensures.knows_still _ _ c.into_parts.ensures.given_back) c.go_on.ensures.given_back
