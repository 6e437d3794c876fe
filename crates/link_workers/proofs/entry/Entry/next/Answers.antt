use Rattle.std.proofs.Common.{rules, ◌∙◌, arith}
use Rattle.office_links.specs.Links.{standing_by}
use Rattle.link_workers.specs.Links.{IsLogged}
use Rattle.link_workers.proofs.GivenBack.{tells_came, tells_taken}
use Rattle.link_workers.proofs.entry.Entry.next.Goals as goal

pub invariant_of-self : goal.invariant_of-self
invariant_of-self g c =
    let standing = standing_by g.L.In.Source.left g.L.In.Source.faults g.L.Out.Sink.held g.L.Out.Sink.faults in
    let count = c.in-Link.ensures.count in
    let most = c.self.invariant.0 in (
      omega (arith, most, count),
      λ is. c.in-Link.ensures.cause ∙ c.self.invariant.1 is,
      search rules,
      tells_taken standing (IsLogged g.B.Start.is_made (g.T.Seat.knows c.self.inside.log)) _ _ _ c.in-Link.source c.in-Link.sink c.self.invariant.3 c.in-Link.ensures.links,
    )

pub returns-in-Link : goal.returns-in-Link
returns-in-Link g c =
    let standing = standing_by g.L.In.Source.left g.L.In.Source.faults g.L.Out.Sink.held g.L.Out.Sink.faults in
    record { came = tells_came standing (IsLogged g.B.Start.is_made (g.T.Seat.knows c.self.inside.log)) _ _ _ c.in-Link.source c.in-Link.sink c.self.invariant.3 c.in-Link.ensures.links }
