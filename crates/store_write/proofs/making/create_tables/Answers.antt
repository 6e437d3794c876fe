use Rattle.std.proofs.Common.{ℕ, List, [], Err, ◌≤◌, subst, arith}
use Rattle.std.proofs.lemmas.Result.{err_from_is_err_and}
use Rattle.sqlite.specs.{Held.state, State.HasCleanDisk, State.ExecutesInside}
use Rattle.store_write.specs.Effects.{Ran}
use Rattle.store_write.proofs.Made.{all_made}
use Rattle.store_write.proofs.Makeable.{acts_by_fault, records_by_fault, lines_by_fault}
use Rattle.store_write.proofs.Results.{on_ok, if_err}
use Rattle.store_write.proofs.making.create_tables.Goals as goal

pub returns-clause-made : goal.returns-clause-made
returns-clause-made g c clean =
    let a = state g.S.Store c.args.tx.now.conn.now in
    let b = state g.S.Store c.create.new.tx.conn.now in
    let d = state g.S.Store c.create-2.new.tx.conn.now in
    let e = state g.S.Store c.create-3.new.tx.conn.now in
    let first = subst (λ (sql : List ℕ). Ran sql a b) c.create_text.ensures (c.in_ok-create.ensures.ran (omega (arith, c.create-2.ensures.survives.clean, c.create-3.ensures.survives.clean))) in
    let second = subst (λ (sql : List ℕ). Ran sql b d) c.create_text-2.ensures (c.in_ok-create-2.ensures.ran (omega (arith, c.create-3.ensures.survives.clean))) in
    on_ok c.create-3.result (λ h. all_made a b d e first second (subst (λ (sql : List ℕ). Ran sql d e) c.create_text-3.ensures h)) (c.create-3.ensures.ran clean)

pub returns-in_err-create-clause-cause : goal.returns-in_err-create-clause-cause
returns-in_err-create-clause-cause g c clean =
    let a = state g.S.Store c.args.tx.now.conn.now in
    let new = state g.S.Store c.create.new.tx.conn.now in
    let e = c.in_err-create.field-0.0 in
    let p = err_from_is_err_and c.from_residual.result c.from_residual.ensures.1 in
    rw (p.1, p.2) (λ is_open inside empty. acts_by_fault a new e empty is_open (subst (λ (sql : List ℕ). ExecutesInside 0 sql [] a new (Err e)) c.create_text.ensures (c.in_err-create.ensures.refused clean inside)))

pub returns-in_err-create-2-clause-cause : goal.returns-in_err-create-2-clause-cause
returns-in_err-create-2-clause-cause g c clean =
    let a = state g.S.Store c.args.tx.now.conn.now in
    let b = state g.S.Store c.create.new.tx.conn.now in
    let new = state g.S.Store c.create-2.new.tx.conn.now in
    let e = c.in_err-create-2.field-0.0 in
    let made = c.in_ok-create.ensures in
    let did = c.in_err-create-2.ensures in
    let early : HasCleanDisk b = omega (arith, did.survives.clean, clean) in
    let p = err_from_is_err_and c.from_residual-in_err-create-2.result c.from_residual-in_err-create-2.ensures.1 in
    rw (p.1, p.2) (λ is_open inside empty. records_by_fault a new e empty b (subst (λ (sql : List ℕ). Ran sql a b) c.create_text.ensures (made.ran early)) made.survives.counts (made.open early)
    (subst (λ (sql : List ℕ). ExecutesInside 0 sql [] b new (Err e)) c.create_text-2.ensures (did.refused clean (made.inside early))))

pub returns-clause-cause : goal.returns-clause-cause
returns-clause-cause g c clean =
    let a = state g.S.Store c.args.tx.now.conn.now in
    let b = state g.S.Store c.create.new.tx.conn.now in
    let d = state g.S.Store c.create-2.new.tx.conn.now in
    let new = state g.S.Store c.create-3.new.tx.conn.now in
    let first = c.in_ok-create.ensures in
    let second = c.in_ok-create-2.ensures in
    let did = c.create-3.ensures in
    let late : HasCleanDisk d = omega (arith, did.survives.clean, clean) in
    let early : HasCleanDisk b = omega (arith, second.survives.clean, late) in
    let later : a.faults ≤ d.faults = omega (arith, first.survives.counts, second.survives.counts) in
    if_err _ _ c.create-3.result (λ e refused is_open inside empty.
    lines_by_fault a new e empty b (subst (λ (sql : List ℕ). Ran sql a b) c.create_text.ensures (first.ran early)) d (subst (λ (sql : List ℕ). Ran sql b d) c.create_text-2.ensures (second.ran late)) later (second.open late)
    (subst (λ (sql : List ℕ). ExecutesInside 0 sql [] d new (Err e)) c.create_text-3.ensures (refused (second.inside late)))) (did.refused clean)
