use Rattle.std.proofs.Common.{[], inl, not, refl, sym, ap, subst, ◌∙◌, rules, arith}
use Rattle.sqlite.specs.State.{HasCleanDisk, IsUnchanged, FailsToQuery}
use Rattle.std.proofs.lemmas.Result.{err_from_is_err_and}
use Rattle.sqlite.specs.Held.{Held, state}
use Rattle.sqlite.specs.Given.{HasBegun}
use Rattle.sqlite.proofs.StateLemmas.{survives_then}
use Rattle.store_sql.specs.Tables.{select_text}
use Rattle.store_read.specs.Asking.{OnlyReads, AreShown}
use Rattle.store_read.proofs.Asked.{fails, ended_undoes, commits_nothing, HasRead, begins, reads_more, reads_all}
use Rattle.store_read.proofs.Refused.{next_by_fault}
use Rattle.store_read.proofs.asking.read_rows.Goals as goal

pub returns-in_err-rows-clause-undone : goal.returns-in_err-rows-clause-undone
returns-in_err-rows-clause-undone g c clean =
    let old = state g.S.Store c.args.conn.now in
    let new = state g.S.Store c.query.follows.lender-at-none in
    let refused = rw c.in_err-rows.was at c.query.follows.holds-at-none in
    ended_undoes old new (c.requires.alone, c.is_autocommit-is_alone.ensures.settled (c.is_autocommit-is_alone.ensures.value ∙ ap not c.requires.alone)) (fails old new c.select_text.result.now [] _ (refused.err clean))

pub returns-in_err-rows-clause-survives : goal.returns-in_err-rows-clause-survives
returns-in_err-rows-clause-survives g c =
    let old = state g.S.Store c.args.conn.now in
    let new = state g.S.Store c.query.follows.lender-at-none in
    let refused = rw c.in_err-rows.was at c.query.follows.holds-at-none in
    commits_nothing c.select_text.result.now [] old new (subst OnlyReads (sym c.select_text.ensures) c.requires.reads) refused.survives

pub rows-init : goal.rows-init
rows-init g c =
    let made = c.in_ok-rows.ensures in
    let now = c.in_ok-rows.rows.conn.now in (
      refl,
      made.mode c.requires.alone,
      commits_nothing c.select_text.result.now [] (state g.S.Store c.args.conn.now) (state g.S.Store now) (subst OnlyReads (sym c.select_text.ensures) c.requires.reads) made.survives,
      λ clean. subst (HasRead g.S.Store (select_text g.T.StoredRow.table) c.args.conn.now now) (sym c.new-read.ensures)
          (begins g.S.Store (select_text g.T.StoredRow.table) c.args.conn.now now c.requires.reads (subst (λ s. HasBegun g.S.Store s [] c.args.conn.now now) c.select_text.ensures (made.begun clean))),
    )

pub returns-in_default-clause-shown : goal.returns-in_default-clause-shown
returns-in_default-clause-shown g c clean =
    let moved = c.next.follows.holds-at-none in
    let now = c.next.follows.lender-at-none.conn.now in
    let late : HasCleanDisk (state g.S.Store now) = search rules in
    let was = c.rows.invariant.3 (omega (arith, moved.survives.clean, late)) in
    let same : IsUnchanged (state g.S.Store c.rows.rows.conn.now) (state g.S.Store now) = rw c.in_ok-row.was at (moved.same late) in
    let on = rw (c.in_ok-row.was, c.in_default.is) at (moved.ok late) in
    let all = reads_all g.S.Store (select_text g.T.StoredRow.table) c.args.conn.now c.rows.rows.conn.now now c.rows.read was on same in
    subst (λ (h : Held _). AreShown g.S.Store (select_text g.T.StoredRow.table) c.rows.read c.args.conn.now h) (search rules) all

pub rows-preserved : goal.rows-preserved
rows-preserved g c =
    let moved = c.next.follows.holds-at-none in
    let was = c.rows.rows.conn.now in
    let now = c.next.follows.lender-at-none.conn.now in (
      moved.same_reference ∙ c.rows.invariant.0,
      moved.mode c.rows.invariant.1,
      survives_then (state g.S.Store c.args.conn.now) (state g.S.Store was) (state g.S.Store now) (λ _. ⊥) (λ _. ⊥) (λ _. ⊥) (λ _ _ none. none) (λ _ _ none. none) c.rows.invariant.2 moved.survives,
      λ clean.
          let before = c.rows.invariant.3 (omega (arith, moved.survives.clean, clean)) in
          let same : IsUnchanged (state g.S.Store was) (state g.S.Store now) = rw c.in_ok-row.was at (moved.same clean) in
          let on = rw (c.in_ok-row.was, c.in-Some.is) at (moved.ok clean) in
          subst (HasRead g.S.Store (select_text g.T.StoredRow.table) c.args.conn.now now) (sym c.in_ok-hold.ensures.holds)
          (reads_more g.S.Store (select_text g.T.StoredRow.table) c.args.conn.now was now c.rows.read c.in-Some.row.now before on same),
    )

pub returns-in_err-rows-clause-cause : goal.returns-in_err-rows-clause-cause
returns-in_err-rows-clause-cause g c clean =
    let old = c.args.conn.now in
    let new = c.query.follows.lender-at-none in
    let e = c.in_err-rows.field-0.0 in
    let refused = rw c.in_err-rows.was at c.query.follows.holds-at-none in
    let p = err_from_is_err_and c.from_residual.result c.from_residual.ensures.1 in
    rw (p.1, p.2) (λ serves. c.requires.refused old new e serves (subst (λ s. FailsToQuery s [] (state g.S.Store old) (state g.S.Store new) e) c.select_text.ensures (refused.err clean)))

pub returns-in_err-row-clause-cause : goal.returns-in_err-row-clause-cause
returns-in_err-row-clause-cause g c clean =
    let old = c.args.conn.now in
    let mid = c.rows.rows.conn.now in
    let moved = c.next.follows.holds-at-none in
    let new = c.next.follows.lender-at-none.conn.now in
    let late : HasCleanDisk (state g.S.Store new) = search rules in
    let was = c.rows.invariant.3 (omega (arith, moved.survives.clean, late)) in
    let failed = rw c.in_err-row.was at (moved.err late) in
    let p = err_from_is_err_and c.from_residual-in_err-row.result c.from_residual-in_err-row.ensures.1 in
    rw (p.1, p.2) (λ serves.
    let why = next_by_fault g.S.Store (select_text g.T.StoredRow.table) old mid new was.same c.rows.read c.in_err-row.field-0.0 c.requires.refused was.gave c.rows.invariant.2 failed serves in
    search rules)

pub returns-in_err-hold-clause-cause : goal.returns-in_err-hold-clause-cause
returns-in_err-hold-clause-cause g c clean =
    let p = err_from_is_err_and c.from_residual-in_err-hold.result c.from_residual-in_err-hold.ensures.1 in
    rw (p.1, p.2) (λ serves. inl c.in_err-hold.ensures.fails)
