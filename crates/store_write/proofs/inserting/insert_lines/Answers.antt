use Rattle.std.proofs.Common.{suc, ◌+◌, ◌-◌, [], ◌++◌, take, length, sym, subst, IsTrue, ◌∙◌, arith, rules}
use Rattle.store_sql.specs.Schema.{HasTables}
use Rattle.sqlite.specs.Effect.{IsDatabase}
use Rattle.store_sql.specs.Takes.{IsExcused, IsServing, HasNumbers}
use Rattle.store_write.specs.Causes.{TakesLines}
use Rattle.store_write.proofs.Causes.{excused_then, serves_then, lines_so_far, line_is_new}
use Rattle.sqlite.specs.{Held.state, State.HasCleanDisk}
use Rattle.sqlite.proofs.InsideLemmas.{keeps_then}
use Rattle.sqlite.proofs.StateLemmas.{survives_then}
use Rattle.store_write.proofs.Filled.{lines_more, fit_more}
use Rattle.store_write.proofs.inserting.insert_lines.Goals as goal

pub loop-line-preserved : goal.loop-line-preserved
loop-line-preserved g c =
    let first = state g.S.Store c.args.tx.now.conn.now in
    let old = state g.S.Store c.loop-line.tx.conn.now in
    let new = state g.S.Store c.insert_line.new.tx.conn.now in
    let was = c.loop-line.invariant in
    let did = c.in_ok-insert_line.ensures in (
      did.same_reference ∙ was.0,
      survives_then first old new _ _ _ (λ _ db none. none) (λ _ db none. none) was.1 did.survives,
      λ clean. keeps_then first old new (was.2 (omega (arith, did.survives.clean, clean))) (did.kept clean),
      λ clean. lines_more first old new c.args.lines.now c.loop-line.line-index c.line-item.result c.line-item.is c.loop-line-test.true (was.3 (omega (arith, did.survives.clean, clean))) (did.filled clean),
      λ clean more has room.
          let early : HasCleanDisk old = omega (arith, did.survives.clean, clean) in
          let numbered = (did.numbers clean) more (subst HasTables (sym (was.3 early).schema) has) in
          numbered (was.4 early (suc more) has (subst (HasNumbers (first.now.trees 4)) (omega arith) room)),
      fit_more c.args.lines.now c.loop-line.line-index c.line-item.result c.line-item.is c.loop-line-test.true was.5 did.fits,
    )

pub returns-in_err-insert_line-clause-cause : goal.returns-in_err-insert_line-clause-cause
returns-in_err-insert_line-clause-cause g c clean =
    let first = state g.S.Store c.args.tx.now.conn.now in
    let now = state g.S.Store c.loop-line.tx.conn.now in
    let new = state g.S.Store c.insert_line.new.tx.conn.now in
    let lines = c.args.lines.now in
    let i = c.loop-line.line-index in
    let e = c.in_err-insert_line.field-0.0 in
    let was = c.loop-line.invariant in
    let did = c.in_err-insert_line.ensures in
    let early : HasCleanDisk now = omega (arith, did.survives.clean, clean) in
    let filled = was.3 early in
    let it : IsServing first → IsDatabase first.now → IsTrue first.in_transaction → TakesLines first.now.trees lines → IsExcused first new e = λ serves live inside takes.
    excused_then first now new _ _ e was.1 did.survives early serves.is_open (λ is_open.
    did.cause clean (serves_then first now _ [] [] _ serves was.1 filled is_open) (filled.live live) (filled.inside inside)
    (takes.there ++ take i lines) (length lines - (i + 1)) (lines_so_far takes.there (take i lines) _ _ takes.there_are (filled.rows serves.schema).lines_are)
    (line_is_new takes.there lines i c.line-item.result c.line-item.is c.loop-line-test.true takes.new)
    (was.4 early (suc (length lines - (i + 1))) serves.schema (subst (HasNumbers (first.now.trees 4)) (omega (arith, c.loop-line-test.true)) takes.numbers))) in
    search rules
