use Rattle.std.proofs.Common.{◌≡◌, true, [], ◌∷◌, length, IsTrue, sym, subst, arith, rules}
use Rattle.store_sql.specs.Schema.{HasTables}
use Rattle.sqlite.specs.{State.HasCleanDisk, Effect.IsDatabase}
use Rattle.sqlite.proofs.StateLemmas.{survives_then}
use Rattle.store_sql.specs.Takes.{IsExcused, IsServing}
use Rattle.store_write.specs.Causes.{Takes, TakesLines}
use Rattle.store_write.proofs.Causes.{excused_then, serves_then, made_then, lines_then}
use Rattle.sqlite.specs.Held.{state}
use Rattle.std.specs.List.{AllByRecursion}
use Rattle.store_sql.specs.Tables.{cells, fits}
use Rattle.store_sql.specs.Columns.{acts, lines}
use Rattle.store_write.specs.Effects.{Fills, made_part, line_part}
use Rattle.store_write.proofs.Filled.{batch_fills, fills_then}
use Rattle.store_write.proofs.Results.{on_ok, if_err}
use Rattle.store_write.proofs.writing.fill.Goals as goal

pub returns-clause-filled : goal.returns-clause-filled
returns-clause-filled g c clean =
    let first = state g.S.Store c.args.tx.now.conn.now in
    let second = state g.S.Store c.insert_act.new.tx.conn.now in
    let third = state g.S.Store c.insert_made.new.tx.conn.now in
    let last = state g.S.Store c.insert_lines.new.tx.conn.now in
    let batch = c.args.batch.now in
    let act = c.in_ok-insert_act.ensures.filled (omega (arith, c.insert_made.ensures.survives.clean, c.insert_lines.ensures.survives.clean, clean)) in
    let made = c.in_ok-insert_made.ensures.filled (omega (arith, c.insert_lines.ensures.survives.clean, clean)) in
    on_ok c.insert_lines.result
    (λ h. batch_fills (cells acts batch.act) (made_part batch.made) (line_part batch.lines) first second third last act made (subst (λ lines. Fills [] [] (line_part lines) third last) c.as_slice.ensures h))
    (c.insert_lines.ensures.filled clean)

pub returns-clause-fit : goal.returns-clause-fit
returns-clause-fit g c =
    on_ok c.insert_lines.result (λ h. record {
      act = (c.insert_act.ensures.fits, tt);
      made = c.insert_made.ensures.fits;
      lines = subst (λ made. AllByRecursion (λ row. fits lines row ≡ true) (line_part made)) c.as_slice.ensures h;
    }) c.insert_lines.ensures.fit

pub returns-in_err-insert_made-clause-cause : goal.returns-in_err-insert_made-clause-cause
returns-in_err-insert_made-clause-cause g c clean =
    let first = state g.S.Store c.args.tx.now.conn.now in
    let second = state g.S.Store c.insert_act.new.tx.conn.now in
    let new = state g.S.Store c.insert_made.new.tx.conn.now in
    let batch = c.args.batch.now in
    let e = c.in_err-insert_made.field-0.0 in
    let acted = c.in_ok-insert_act.ensures in
    let did = c.in_err-insert_made.ensures in
    let early : HasCleanDisk second = omega (arith, did.survives.clean, clean) in
    let filled = acted.filled early in
    let it : IsServing first → IsDatabase first.now → IsTrue first.in_transaction → Takes first.now.trees batch → IsExcused first new e = λ serves live inside takes.
    excused_then first second new _ _ e acted.survives did.survives early serves.is_open (λ is_open.
    did.cause clean (serves_then first second _ _ _ _ serves acted.survives filled is_open) (filled.live live) (filled.inside inside) (made_then first.now.trees second.now.trees _ batch.made (filled.rows serves.schema) takes.made)) in
    search rules

pub returns-clause-cause : goal.returns-clause-cause
returns-clause-cause g c clean =
    let first = state g.S.Store c.args.tx.now.conn.now in
    let second = state g.S.Store c.insert_act.new.tx.conn.now in
    let third = state g.S.Store c.insert_made.new.tx.conn.now in
    let new = state g.S.Store c.insert_lines.new.tx.conn.now in
    let batch = c.args.batch.now in
    let acted = c.in_ok-insert_act.ensures in
    let made = c.in_ok-insert_made.ensures in
    let did = c.insert_lines.ensures in
    let late : HasCleanDisk third = omega (arith, did.survives.clean, clean) in
    let early : HasCleanDisk second = omega (arith, made.survives.clean, late) in
    let both = fills_then (cells acts batch.act ∷ []) [] [] [] (made_part batch.made) [] first second third (acted.filled early) (made.filled late) in
    let so_far = survives_then first second third (λ _. ⊥) (λ _. ⊥) (λ _. ⊥) (λ _ _ none. none) (λ _ _ none. none) acted.survives made.survives in
    if_err _ _ c.insert_lines.result (λ e why serves live inside takes.
    excused_then first third new _ _ e so_far did.survives late serves.is_open (λ is_open.
    why (serves_then first third _ _ _ _ serves so_far both is_open) (both.live live) (both.inside inside)
    (subst (TakesLines third.now.trees) (sym c.as_slice.ensures) (lines_then first.now.trees third.now.trees _ _ batch.lines (both.rows serves.schema) takes.lines
    (made.numbers late (length batch.lines) (subst HasTables (sym (acted.filled early).schema) serves.schema) (acted.numbers early (length batch.lines) serves.schema takes.lines.numbers))))))
    (did.cause clean)
