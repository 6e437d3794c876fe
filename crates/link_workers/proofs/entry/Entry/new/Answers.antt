use Rattle.std.proofs.Common.{sym, subst}
use Rattle.link_workers.specs.Links.{IsLogged, TellsBack}
use Rattle.link_workers.proofs.GivenBack.{tells_none}
use Rattle.link_workers.proofs.entry.Entry.new.Goals as goal

pub invariant_of-result : goal.invariant_of-result
invariant_of-result g c = (
  c.requires.left,
  λ is. c.requires.faults,
  λ is. absurd (cc is),
  subst (TellsBack (IsLogged g.B.Start.is_made (g.T.Seat.knows c.args.log)) g.B.Start.links) (sym c.requires.links)
      (tells_none (IsLogged g.B.Start.is_made (g.T.Seat.knows c.args.log)) g.B.Start.links),
)
