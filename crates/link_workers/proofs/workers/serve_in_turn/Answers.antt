use Rattle.office_links.specs.Links.{standing_by}
use Rattle.link_workers.proofs.GivenBack.{hung_up}
use Rattle.link_workers.proofs.workers.serve_in_turn.Goals as goal

pub done-requires : goal.done-requires
done-requires g c =
    let standing = standing_by g.L.In.Source.left g.L.In.Source.faults g.L.Out.Sink.held g.L.Out.Sink.faults in
    record {
      served = (
        standing c.in-Some-next.source c.in-Some-next.sink,
        c.in-Some-next.ensures.came,
        hung_up (λ link. g.B.Start.is_made link c.serve.new.self) _ _ _ _ _ _ _ c.hang_up.ensures.held c.hang_up.ensures.faults
            (c.requires.makes _ _ (_, c.loop.invariant.follows, c.serve.ensures.serves)),
      );
    }
