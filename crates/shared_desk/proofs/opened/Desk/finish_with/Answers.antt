use Rattle.std.proofs.Common.{◌∙◌, ap}
use Rattle.book_rows.specs.Book.{book_of as rows_of}
use Rattle.desk_history.specs.Seen.{start_on}
use Rattle.shared_desk.specs.{Calls.Locking, Passes.DeskView}
use Rattle.shared_desk.proofs.Retired.{finished_with}
use Rattle.shared_desk.proofs.opened.Desk.finish_with.Goals as goal

pub returns : goal.returns
returns g c =
    let desk = c.self.inside in
    let last = c.finish.ensures (start_on (rows_of desk.opening.value) desk.capacity.acts desk.capacity.lines) desk.made c.self.invariant.0 c.self.invariant.1 in
    finished_with c.args.others.items c.from.result.items c.args.pass desk.made c.args.self.made (rows_of c.finish.result.tables) g.B.Naming.told
    (g.K.Keeper.holds c.finish.result.keeper) (g.K.Keeper.is_well c.finish.result.keeper) g.B.Naming.sound
    (g.K.Keeper.tells_crash c.finish.result.keeper) (g.K.Keeper.leaves c.finish.result.keeper)
    c.into_inner-locked.result.book.list c.into_inner-locked.result.book.tried last.0
    (last.1 ∙ ap (λ (l : Locking g.row.K.Denot). l.book.list) c.retire_each.ensures.same)
    (last.2 ∙ ap (λ (l : Locking g.row.K.Denot). l.book.tried) c.retire_each.ensures.same)
    c.retire_each.ensures.own c.from.ensures.0 (ap (λ (d : DeskView). d.made) c.self.view_is)
