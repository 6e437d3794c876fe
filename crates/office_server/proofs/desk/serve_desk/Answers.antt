use Rattle.std.proofs.Common.{◌∙◌, arith, sym, subst}
use Rattle.book_rows.specs.Book.{book_of}
use Rattle.shared_desk.specs.Passes.{AreFresh}
use Rattle.office_server.specs.Links.{MayLeave, ServesInTurn, ServesTogether}
use Rattle.office_server.proofs.{Leaving.in_turn, Leaving.leaves_desk, Leaving.leaves_tried, Leaving.together, Leaving.turned, SeatLemmas.fresh_starts, SeatLemmas.one_long}
use Rattle.office_server.proofs.desk.serve_desk.Goals as goal

pub returns-in-Ok-clause-leaves : goal.returns-in-Ok-clause-leaves
returns-in-Ok-clause-leaves g c =
    let same = c.serve_by-worked.ensures.start c.args.desk.start (fresh_starts c.args.desk.start 1 c.in-Ok.passes.items c.in-Ok.ensures.fresh) in
    leaves_desk c.args.desk.start c.serve_by-worked.result.pass _ _ _ _ _ _ _ _ same _ c.left_by.ensures.finished c.requires.capacity

pub returns-in-Ok-clause-stopped : goal.returns-in-Ok-clause-stopped
returns-in-Ok-clause-stopped g c =
    let same = c.serve_by-worked.ensures.start c.args.desk.start (fresh_starts c.args.desk.start 1 c.in-Ok.passes.items c.in-Ok.ensures.fresh) in
    leaves_tried c.args.desk.start c.serve_by-worked.result.pass _ _ _ _ _ _ _ _ same _ c.left_by.ensures.finished _ c.requires.capacity c.in-Ok.ensures.made

pub returns-in-Ok-clause-in_turn : goal.returns-in-Ok-clause-in_turn
returns-in-Ok-clause-in_turn g c = λ one.
    let same = c.serve_by-worked.ensures.start c.args.desk.start (fresh_starts c.args.desk.start 1 c.in-Ok.passes.items c.in-Ok.ensures.fresh) in
    let first = one_long c.in-Ok.passes.items (c.in-Ok.ensures.many ∙ one) in
    let fresh = (subst (AreFresh c.args.desk.start 1) first.1 c.in-Ok.ensures.fresh).0 in
    turned _ _ _ _ c.left_by.ensures.end (λ served. subst (λ listener.
    ServesInTurn (g.C.Clock.may_show c.args.clock.now) (g.L.Listener.left c.args.listener) (g.L.Listener.left listener) (g.L.Listener.links c.args.listener) (g.L.Listener.links listener)
    (MayLeave g.B.Naming.sound (g.K.Keeper.tells_crash c.left_by.result.finished.keeper) (g.K.Keeper.holds c.left_by.result.finished.keeper) (g.K.Keeper.leaves c.left_by.result.finished.keeper))
    (book_of c.left_by.result.finished.tables))
    (sym c.left_by.ensures.listener)
    (in_turn c.args.desk.start c.serve_by-worked.result.pass _ _ _ _ _ _ _ _ same _ c.left_by.ensures.finished (g.C.Clock.may_show c.args.clock.now) first.0 _ _ _ _ c.requires.capacity (let few = c.in-Ok.ensures.made in omega (arith, few, one)) fresh served))
    (c.serve_by-worked.ensures.alone first.0 first.1)

pub returns-in-Ok-clause-together : goal.returns-in-Ok-clause-together
returns-in-Ok-clause-together g c =
    let same = c.serve_by-worked.ensures.start c.args.desk.start (fresh_starts c.args.desk.start 1 c.in-Ok.passes.items c.in-Ok.ensures.fresh) in
    turned _ _ _ _ c.left_by.ensures.end (λ works. subst (λ listener.
    ServesTogether (g.C.Clock.may_show c.args.clock.now) c.args.workers (g.L.Listener.links c.args.listener) (g.L.Listener.links listener)
    (MayLeave g.B.Naming.sound (g.K.Keeper.tells_crash c.left_by.result.finished.keeper) (g.K.Keeper.holds c.left_by.result.finished.keeper) (g.K.Keeper.leaves c.left_by.result.finished.keeper))
    (book_of c.left_by.result.finished.tables))
    (sym c.left_by.ensures.listener)
    (together c.args.desk.start c.serve_by-worked.result.pass _ _ _ _ _ _ _ _ same _ c.left_by.ensures.finished (g.C.Clock.may_show c.args.clock.now) c.args.workers c.in-Ok.passes.items _ _
    c.in-Ok.ensures.many c.in-Ok.ensures.made c.requires.capacity c.in-Ok.ensures.fresh works c.entries_are_those_of_the_number.ensures))
    c.serve_by-worked.ensures.works

pub returns-in-Err-clause-stopped : goal.returns-in-Err-clause-stopped
returns-in-Err-clause-stopped g c =
    leaves_tried c.args.desk.start c.in-Err.pass _ _ _ _ _ _ _ _ c.in-Err.ensures.one _ c.left_by-in-Err.ensures.finished _ c.requires.capacity c.in-Err.ensures.made
