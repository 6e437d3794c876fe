use Rattle.sqlite.specs.Held.{state}
use Rattle.store_read.specs.Asking.{error_of}
use Rattle.keeper_sqlite.proofs.Calls.{gives_rows, mistyped}
use Rattle.std.proofs.lemmas.Result.{err_from_is_err_and}
use Rattle.keeper_sqlite.proofs.Unloaded.{unread, if_ok, if_err}
use Rattle.keeper_sqlite.proofs.loading.load_rows.Goals as goal

pub returns-clause-gives : goal.returns-clause-gives
returns-clause-gives g c =
    let kept = c.in_ok-rows.ensures in
    if_ok _ _ c.loaded_of.result (λ loaded reads is_beside.
    gives_rows c.in_ok-rows.rows (state g.S.Store c.args.conn.now) (state g.S.Store c.ask_tables.new.conn) (λ _. ⊥) loaded is_beside kept.survives kept.shown kept.undone reads) c.loaded_of.ensures.narrowed

pub returns-clause-cause : goal.returns-clause-cause
returns-clause-cause g c =
    if_err _ _ c.loaded_of.result (λ fault wrong is_beside some.
    mistyped c.in_ok-rows.rows (state g.S.Store c.args.conn.now) (state g.S.Store c.ask_tables.new.conn) is_beside c.in_ok-rows.ensures.shown (error_of fault) wrong) c.loaded_of.ensures.mistyped

pub returns-in_err-rows-clause-cause : goal.returns-in_err-rows-clause-cause
returns-in_err-rows-clause-cause g c =
    let p = err_from_is_err_and c.from_residual.result c.from_residual.ensures.1 in
    rw (p.1, p.2) (λ is_beside some. unread (state g.S.Store c.args.conn.now) (state g.S.Store c.ask_tables.new.conn) is_beside c.in_err-rows.field-0.0 c.in_err-rows.ensures.cause some)
