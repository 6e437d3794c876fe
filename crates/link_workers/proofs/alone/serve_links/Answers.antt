use Rattle.std.proofs.Common.{rules}
use Rattle.office_links.specs.Links.{standing_by}
use Rattle.link_workers.proofs.GivenBack.{logged_still, tells_came, tells_more, tells_none, tells_same, tells_taken}
use Rattle.link_workers.proofs.SoFar.{so_far_all, so_far_more, so_far_none}
use Rattle.link_workers.proofs.alone.serve_links.Goals as goal

pub loop-source-init : goal.loop-source-init
loop-source-init g c = record {
  served = so_far_none g.T.Seat.serves _ _ _;
  given_back = tells_none _ _;
  unfaulted = search rules;
  knows_still = λ entered known. known;
  in_order = c.requires.in_order;
  follows = g.met.T.Seat.stays _;
}

pub loop-source-preserved : goal.loop-source-preserved
loop-source-preserved g c =
    let standing = standing_by g.L.In.Source.left g.L.In.Source.faults g.L.Out.Sink.held g.L.Out.Sink.faults in
    let before = logged_still _ _ _ c.serve_link.ensures.knows_still _ _ c.loop-source.invariant.given_back in
    let served = c.serve_link.ensures.served in
    record {
      served = so_far_more g.T.Seat.serves standing _ _ _ _ _ _ _ _ _ _ _
          c.in-Link.source c.in-Link.sink c.loop-source.invariant.served
          c.in-Link.ensures.count c.in-Link.ensures.fits c.in-Link.ensures.links served c.serve_link.ensures.left;
      given_back = tells_more _ (record { came = standing c.in-Link.source c.in-Link.sink; given_back = served.0 }) _ _ _
          (tells_taken standing _ _ _ _ c.in-Link.source c.in-Link.sink before c.in-Link.ensures.links)
          served.2
          (tells_came standing _ _ _ _ c.in-Link.source c.in-Link.sink before c.in-Link.ensures.links)
          (_, (_, c.loop-source.invariant.follows, served.1), c.serve_link.ensures.knows);
      unfaulted = search rules;
      knows_still = λ entered known. c.serve_link.ensures.knows_still entered (c.loop-source.invariant.knows_still entered known);
      in_order = c.serve_link.ensures.in_order;
      follows = g.met.T.Seat.joins _ _ _ c.loop-source.invariant.follows c.serve_link.ensures.follows;
    }

pub returns-in-End-clause-served : goal.returns-in-End-clause-served
returns-in-End-clause-served g c =
    so_far_all g.T.Seat.serves _ _ _ _ _ _ _ _ c.loop-source.invariant.served
    c.in-End.ensures.count.1 c.in-End.ensures.fits c.in-End.ensures.links

pub returns-in-End-clause-given_back : goal.returns-in-End-clause-given_back
returns-in-End-clause-given_back g c = tells_same _ _ _ _ c.loop-source.invariant.given_back c.in-End.ensures.links

pub returns-in-Failed-clause-served : goal.returns-in-Failed-clause-served
returns-in-Failed-clause-served g c =
    so_far_all g.T.Seat.serves _ _ _ _ _ _ _ _ c.loop-source.invariant.served
    c.in-Failed.ensures.count.1 c.in-Failed.ensures.fits c.in-Failed.ensures.links

pub returns-in-Failed-clause-given_back : goal.returns-in-Failed-clause-given_back
returns-in-Failed-clause-given_back g c = tells_same _ _ _ _ c.loop-source.invariant.given_back c.in-Failed.ensures.links
