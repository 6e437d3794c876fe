use Rattle.std.proofs.Common.{◌∙◌, arith, sym, subst}
use Rattle.office_io.specs.Outside.{Faulted}
use Rattle.office_links.specs.Links.{standing_by}
use Rattle.link_workers.specs.Links.{IsLogged}
use Rattle.link_workers.proofs.GivenBack.{logged_still, tells_more}
use Rattle.link_workers.proofs.entry.Entry.done.Goals as goal

pub invariant_of-self : goal.invariant_of-self
invariant_of-self g c =
    let standing = standing_by g.L.In.Source.left g.L.In.Source.faults g.L.Out.Sink.held g.L.Out.Sink.faults in
    let served = c.requires.served in
    let count = c.done.ensures.count in
    let most = c.self.invariant.0 in (
      omega (arith, most, count),
      λ is. c.done.ensures.cause ∙ c.self.invariant.1 is,
      λ is. let fails = c.self.invariant.2 is in
          let some = fails.0 in
          (omega (arith, some, count), subst (Faulted g.B.Start.faults) (sym c.done.ensures.cause) fails.1),
      tells_more (IsLogged g.B.Start.is_made (g.T.Seat.knows c.enter.new.log)) (record { came = served.0; given_back = standing c.args.source c.args.sink }) _ _ _
          (logged_still _ _ _ c.enter.ensures.knows_still _ _ c.self.invariant.3) c.done.ensures.links served.1 (_, served.2, c.enter.ensures.knows),
    )
