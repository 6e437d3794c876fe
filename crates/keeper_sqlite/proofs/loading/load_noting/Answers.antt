use Rattle.sqlite.specs.Held.{state}
use Rattle.keeper_sqlite.proofs.Calls.{then_no_more, noted_no_more, noted_on, on_then}
use Rattle.keeper_sqlite.proofs.Unloaded.{if_err, unloaded_noted}
use Rattle.keeper_sqlite.proofs.loading.load_noting.Goals as goal

pub returns-clause-tells : goal.returns-clause-tells
returns-clause-tells g c =
    let old = state g.S.Store c.args.conn.now in
    then_no_more old old (state g.S.Store c.load_or_make-loaded.new.conn) c.args.is_beside.now c.is_beside.result c.is_beside.result
    (noted_no_more old c.args.is_beside.now c.is_beside.result c.is_beside.ensures) c.load_or_make-loaded.ensures.tells

pub returns-clause-goes_on : goal.returns-clause-goes_on
returns-clause-goes_on g c =
    let old = state g.S.Store c.args.conn.now in
    on_then old (state g.S.Store c.load_or_make-loaded.new.conn) c.args.is_beside.now c.is_beside.result c.is_beside.result
    (noted_on old c.args.is_beside.now c.is_beside.result c.is_beside.ensures) c.load_or_make-loaded.ensures.goes_on

pub returns-clause-cause : goal.returns-clause-cause
returns-clause-cause g c =
    let old = state g.S.Store c.args.conn.now in
    if_err _ _ c.load_or_make-loaded.result (λ e. unloaded_noted old (state g.S.Store c.load_or_make-loaded.new.conn) c.args.is_beside.now c.is_beside.result e c.is_beside.ensures) c.load_or_make-loaded.ensures.cause
