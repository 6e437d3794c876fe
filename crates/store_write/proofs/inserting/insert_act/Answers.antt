use Rattle.std.proofs.Common.{ℕ, List, subst}
use Rattle.sqlite.specs.Order.{Row}
use Rattle.sqlite.specs.{Values.bound, Held.state}
use Rattle.store_sql.specs.Tables.{insert_text}
use Rattle.store_sql.specs.Columns.{acts}
use Rattle.store_write.specs.Effects.{Inserts}
use Rattle.store_write.specs.Causes.{IsRejected}
use Rattle.store_write.proofs.Filled.{fills_act, known_act}
use Rattle.store_write.proofs.Causes.{cause_act, numbers_act}
use Rattle.store_write.proofs.Results.{on_ok, if_err}
use Rattle.store_write.proofs.inserting.insert_act.Goals as goal

pub returns-clause-filled : goal.returns-clause-filled
returns-clause-filled g c clean =
    let old = state g.S.Store c.args.tx.now.conn.now in
    let new = state g.S.Store c.insert_row.new.tx.conn.now in
    on_ok c.insert_row.result (λ h. fills_act old new c.args.act.now (subst (λ (p : Row). Inserts (insert_text acts) p old new) c.act_cells.ensures.cells (subst (λ (sql : List ℕ). Inserts sql (bound c.act_cells.result) old new) c.insert_text.ensures h))) (c.insert_row.ensures.inserted clean)

pub returns-clause-known : goal.returns-clause-known
returns-clause-known g c clean =
    let old = state g.S.Store c.args.tx.now.conn.now in
    let new = state g.S.Store c.insert_row.new.tx.conn.now in
    on_ok c.insert_row.result (λ h. known_act old new (bound c.act_cells.result) (subst (λ (sql : List ℕ). Inserts sql (bound c.act_cells.result) old new) c.insert_text.ensures h)) (c.insert_row.ensures.inserted clean)

pub returns-clause-cause : goal.returns-clause-cause
returns-clause-cause g c clean =
    let old = state g.S.Store c.args.tx.now.conn.now in
    let new = state g.S.Store c.insert_row.new.tx.conn.now in
    if_err _ _ c.insert_row.result
    (λ e h serves live inside takes. cause_act old new takes.there c.args.act.now e serves live takes.there_are takes.new c.act_cells.ensures.fits takes.short
    (subst (λ (p : Row). IsRejected (insert_text acts) p old new e) c.act_cells.ensures.cells (subst (λ (sql : List ℕ). IsRejected sql (bound c.act_cells.result) old new e) c.insert_text.ensures (h inside))))
    (c.insert_row.ensures.refused clean)

pub returns-clause-numbers : goal.returns-clause-numbers
returns-clause-numbers g c clean =
    let old = state g.S.Store c.args.tx.now.conn.now in
    let new = state g.S.Store c.insert_row.new.tx.conn.now in
    on_ok c.insert_row.result (λ h more has. numbers_act old new c.args.act.now more has (subst (λ (p : Row). Inserts (insert_text acts) p old new) c.act_cells.ensures.cells (subst (λ (sql : List ℕ). Inserts sql (bound c.act_cells.result) old new) c.insert_text.ensures h))) (c.insert_row.ensures.inserted clean)
