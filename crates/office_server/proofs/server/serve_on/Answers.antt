use Rattle.std.proofs.Common.{inl, inr, ap, refl}
use Rattle.std.specs.Prelude.{None}
use Rattle.book_rows.specs.Book.{book_of}
use Rattle.office_server.proofs.Leaving.{ends_by, in_turn_otherwise, leaves_otherwise, outlives, together_otherwise, told_otherwise, turn_by, turned}
use Rattle.office_server.proofs.server.serve_on.Goals as goal

pub returns-in-Ok-clause-comes : goal.returns-in-Ok-clause-comes
returns-in-Ok-clause-comes g c =
    let served = c.serve_desk-finished.ensures in
    let told = c.status_of-status.ensures in
    inl (record {
      tables = book_of c.serve_desk-finished.result.finished.tables;
      leaves = told_otherwise g.B.Naming.told (g.K.Keeper.holds c.args.keeper) _ _ c.requires.told_by served.leaves;
      stopped = leaves_otherwise _ _ _ _ (λ after may. (c.requires.sound_by may.0, may.1, may.2, may.3)) served.stopped;
      end = ends_by _ _ _ _ _ _ _ _ _ _ _ _ _ c.serve_desk-finished.result.end served.whole served.failed served.unserved (λ is. ap g.L.Listener.faults (served.unserved is))
          told.whole told.failed told.unserved;
      together = turn_by c.args.listener c.serve_desk-finished.result.listener (g.L.Listener.left c.serve_desk-finished.result.listener) (book_of c.serve_desk-finished.result.finished.tables) _ _ _ _ _ _ _ _ _ c.serve_desk-finished.result.end _ served.unserved (λ is. ap g.L.Listener.faults (served.unserved is)) told.unserved
          (turned _ _ _ _ refl (together_otherwise _ _ _ _ _ _ _ (λ after may. (c.requires.sound_by may.0, may.1, may.2, may.3))) served.together);
      in_turn = λ one. turn_by c.args.listener c.serve_desk-finished.result.listener (g.L.Listener.left c.serve_desk-finished.result.listener) (book_of c.serve_desk-finished.result.finished.tables) _ _ _ _ _ _ _ _ _ c.serve_desk-finished.result.end _ served.unserved (λ is. ap g.L.Listener.faults (served.unserved is)) told.unserved
          (turned _ _ _ _ refl (in_turn_otherwise _ _ _ _ _ _ _ _ (λ after may. (c.requires.sound_by may.0, may.1, may.2, may.3))) (served.in_turn one));
    })

pub returns-in-Ok-clause-tells_on : goal.returns-in-Ok-clause-tells_on
returns-in-Ok-clause-tells_on g c = λ well book holds.
    (book_of c.serve_desk-finished.result.finished.tables, c.serve_desk-finished.ensures.tells_on well book (c.requires.told book holds))

pub returns-in-Ok-clause-stopped : goal.returns-in-Ok-clause-stopped
returns-in-Ok-clause-stopped g c =
    let served = c.serve_desk-finished.ensures in
    outlives _ _ _ _ _ _ _ _ served.leaves.kept (leaves_otherwise _ _ _ _ (λ after may. (c.requires.sound_by may.0, may.1, may.2, may.3)) served.stopped)

pub returns-in-Err-clause-comes : goal.returns-in-Err-clause-comes
returns-in-Err-clause-comes g c = inr (
  refl,
  record {
    why = c.in-Err.field-0.fault;
    is_why = c.in-Err.ensures.unopened;
    kept = c.in-Err.ensures.kept;
    unread = refl;
    unfaulted = refl;
    told = c.tell_unopened.ensures None (g.L.Listener.faults c.args.listener) (g.K.Keeper.faults c.args.keeper) (g.K.Keeper.faults c.in-Err.field-0.keeper) c.in-Err.ensures.cause;
  },
)

pub returns-in-Err-clause-tells_on : goal.returns-in-Err-clause-tells_on
returns-in-Err-clause-tells_on g c = λ well book holds. (book, (c.in-Err.ensures.goes_on well).1 book holds)

pub returns-in-Err-clause-stopped : goal.returns-in-Err-clause-stopped
returns-in-Err-clause-stopped g c = λ sound tells now holds after leaves.
    let left = c.in-Err.ensures.stopped tells in
    inl (sound left.0 now (c.in-Err.ensures.kept now holds) after (left.1 after leaves))
