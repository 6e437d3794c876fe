use Rattle.std.proofs.Common.{inl, inr, refl}
use Rattle.std.proofs.KnownBytes.{Keeps-refl}
use Rattle.http_front.specs.Below.clerk_desk.declared.opening.DeskFault.{DeskFault}
use Rattle.office_server.proofs.Statuses.{accept_fault, bad_book_told, given_back, none_left, quiet, store_fault, write_fault, written}
use Rattle.office_server.proofs.server.run_serve.Goals as goal

pub returns-in-Ok-clause-none_left : goal.returns-in-Ok-clause-none_left
returns-in-Ok-clause-none_left g c = none_left _ _ _ _ g.L.Listener.left g.L.Listener.links _ _ _ _ _ _ _ c.serve_on.ensures.comes

pub returns-in-Ok-clause-given_back : goal.returns-in-Ok-clause-given_back
returns-in-Ok-clause-given_back g c = given_back _ _ _ _ g.L.Listener.left g.L.Listener.links _ _ _ _ _ _ _ c.serve_on.ensures.comes

pub returns-in-Ok-clause-written : goal.returns-in-Ok-clause-written
returns-in-Ok-clause-written g c = written _ _ _ _ g.L.Listener.left g.L.Listener.links _ _ _ _ _ _ _ c.serve_on.ensures.comes

pub returns-in-Ok-clause-quiet : goal.returns-in-Ok-clause-quiet
returns-in-Ok-clause-quiet g c = quiet _ _ _ _ g.L.Listener.left g.L.Listener.links _ _ _ _ _ _ _ c.serve_on.ensures.comes

pub returns-in-Ok-clause-accept_fault : goal.returns-in-Ok-clause-accept_fault
returns-in-Ok-clause-accept_fault g c = accept_fault _ _ _ _ g.L.Listener.left g.L.Listener.links _ _ _ _ _ _ _ c.serve_on.ensures.comes

pub returns-in-Ok-clause-write_fault : goal.returns-in-Ok-clause-write_fault
returns-in-Ok-clause-write_fault g c = write_fault _ _ _ _ g.L.Listener.left g.L.Listener.links _ _ _ _ _ _ _ c.serve_on.ensures.comes

pub returns-in-Ok-clause-store_fault : goal.returns-in-Ok-clause-store_fault
returns-in-Ok-clause-store_fault g c = store_fault _ _ _ _ g.L.Listener.left g.L.Listener.links _ _ _ _ _ _ _ c.serve_on.ensures.comes

pub returns-in-Ok-clause-bad_book : goal.returns-in-Ok-clause-bad_book
returns-in-Ok-clause-bad_book g c = bad_book_told _ _ _ _ g.L.Listener.left g.L.Listener.links _ _ _ _ _ _ _ c.serve_on.ensures.comes

pub returns-in-Err-clause-tells_on : goal.returns-in-Err-clause-tells_on
returns-in-Err-clause-tells_on g c = λ well book holds. (book, holds)

pub returns-in-Err-clause-comes : goal.returns-in-Err-clause-comes
returns-in-Err-clause-comes g c = inr (
  refl,
  record {
    why = DeskFault.NoMemory;
    is_why = tt;
    kept = λ book holds. holds;
    unread = refl;
    unfaulted = refl;
    told = (refl, record { held = Keeps-refl (g.W.Sink.held c.args.sink.now); counts = refl });
  },
)

pub returns-in-Err-clause-stopped : goal.returns-in-Err-clause-stopped
returns-in-Err-clause-stopped g c = λ sound tells now holds after leaves. inl (sound tells now holds after leaves)
