use Rattle.std.proofs.Common.{arith, sym, refl}
use Rattle.office_links.specs.{Links.standing_by, Memory.IsUnused}
use Rattle.office_links.proofs.{First.All-behind, First.accepts-first}
use Rattle.office_links.proofs.memory.MemoryListenerListener.accept.Goals.{in-Some, in-None}
use Rattle.office_links.proofs.memory.MemoryListenerListener.accept.Goals as goal

pub invariant_of-self-2 : goal.invariant_of-self-2
invariant_of-self-2 g c =
    let standing = standing_by g.S.Source.left g.S.Source.faults g.W.Sink.held g.W.Sink.faults in (
      omega (arith, c.next.ensures.len, c.self.invariant.0),
      c.self.invariant.1,
      All-behind (λ link. IsUnused (standing link.source link.sink)) c.next.result _ _ c.next.ensures.items c.self.invariant.2,
    )

pub returns-clause-links : goal.returns-clause-links
returns-clause-links g c =
    let standing = standing_by g.S.Source.left g.S.Source.faults g.W.Sink.held g.W.Sink.faults in
    elim c.match-next.branch [
      | in-Some w ↦ rw (w.result-is, sym c.self.view_is) (accepts-first standing w.in-Some.link _ _ _ _ (rw w.in-Some.is at c.next.ensures.items) c.self.invariant.2)
      | in-None w ↦ rw (w.result-is, sym c.self.view_is, rw w.in-None.is at c.next.ensures.items) refl
    ]
