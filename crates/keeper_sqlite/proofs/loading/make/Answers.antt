use Rattle.sqlite.specs.Held.{state}
use Rattle.keeper_sqlite.proofs.Calls.{made_tells, made_fails, made_gives, made_on, made_left, undone_on, on_ok, either_way}
use Rattle.keeper_sqlite.proofs.Unloaded.{on_err, unmade}
use Rattle.keeper_sqlite.proofs.loading.make.Goals as goal

pub returns-clause-gives : goal.returns-clause-gives
returns-clause-gives g c =
    let old = state g.S.Store c.args.conn.now in
    let new = state g.S.Store c.make_tables.new.conn in
    on_ok c.make_tables.result c.make_tables.ensures.made
    (λ made is_beside tables none. made_gives old new c.make_tables.ensures.survives c.settle.ensures c.requires.empty is_beside made tables none)

pub returns-clause-tells : goal.returns-clause-tells
returns-clause-tells g c is_beside =
    let old = state g.S.Store c.args.conn.now in
    let new = state g.S.Store c.make_tables.new.conn in
    either_way c.make_tables.result c.make_tables.ensures.made c.make_tables.ensures.undone
    (made_tells old new c.make_tables.ensures.survives c.settle.ensures c.requires.empty is_beside)
    (made_fails old new c.make_tables.ensures.survives c.settle.ensures c.requires.empty is_beside)

pub returns-clause-goes_on : goal.returns-clause-goes_on
returns-clause-goes_on g c is_beside =
    let old = state g.S.Store c.args.conn.now in
    let new = state g.S.Store c.make_tables.new.conn in
    either_way c.make_tables.result c.make_tables.ensures.made c.make_tables.ensures.undone
    (made_on old new c.make_tables.ensures.survives c.settle.ensures c.requires.empty is_beside)
    (undone_on old new is_beside)

pub returns-clause-left : goal.returns-clause-left
returns-clause-left g c is_beside =
    made_left (state g.S.Store c.args.conn.now) (state g.S.Store c.make_tables.new.conn) c.make_tables.ensures.survives c.settle.ensures c.requires.empty is_beside

pub returns-clause-cause : goal.returns-clause-cause
returns-clause-cause g c =
    let old = state g.S.Store c.args.conn.now in
    let new = state g.S.Store c.make_tables.new.conn in
    on_err c.make_tables.result c.make_tables.ensures.cause (λ e why is_beside. unmade old new is_beside e why c.requires.empty)
