use Rattle.std.proofs.Common.{◌≡◌, false, refl, sym, subst, rules, arith}
use Rattle.std.proofs.lemmas.Result.{err_from_is_err_and}
use Rattle.sqlite.specs.{State.HasCleanDisk, State.Survives, Held.state}
use Rattle.sqlite.proofs.{StateLemmas.survives_then, Callers.survives_begin}
use Rattle.store_sql.specs.Takes.{IsExcused}
use Rattle.store_write.specs.Effects.{MadeTrees}
use Rattle.store_write.proofs.Causes.{excused_on}
use Rattle.store_write.proofs.Transactions.{made_trees}
use Rattle.store_write.proofs.making.make_tables.Goals as goal

pub returns-clause-survives : goal.returns-clause-survives
returns-clause-survives g c =
    let old = c.args.conn.now in
    let mid = c.create_tables.new.tx.conn.now in
    let end = c.commit.new.self.0 in
    let begun = c.transaction-tx.ensures.begun in
    let filled = c.in_ok-create_tables.ensures in
    let alone : old.in_transaction ≡ false = search rules in
    let P = MadeTrees (state g.S.Store old) in
    let whole = survives_then (state g.S.Store old) (state g.S.Store mid) (state g.S.Store end) _ _ P (λ _ db none. absurd none)
    (λ clean db is.
    let earlier : HasCleanDisk (state g.S.Store mid) = omega (arith, c.commit.ensures.survives.clean, clean) in
    made_trees (state g.S.Store old) (state g.S.Store mid) db ((rw begun at (filled.kept earlier)).was_open (filled.open earlier)) alone (rw begun at (filled.made earlier)) is)
    (survives_begin g.S.Store old (state g.S.Store mid) _ (rw begun at filled.survives)) c.commit.ensures.survives in
    let same : end ≡ c.conn-2-1.given.0 = search rules in
    subst (λ h. Survives (state g.S.Store old) (state g.S.Store h) P) same whole

pub returns-in_err-create_tables-clause-cause : goal.returns-in_err-create_tables-clause-cause
returns-in_err-create_tables-clause-cause g c clean =
    let old = c.args.conn.now in
    let mid = c.create_tables.new.tx.conn.now in
    let end = c.drop-tx.new.self.0 in
    let same : end ≡ c.conn-1.given.0 = search rules in
    let late : HasCleanDisk (state g.S.Store end) = subst (λ h. HasCleanDisk (state g.S.Store h)) (sym same) clean in
    let early : HasCleanDisk (state g.S.Store mid) = omega (arith, c.drop-tx.ensures.survives.clean, late) in
    let why = rw c.transaction-tx.ensures.begun at (c.in_err-create_tables.ensures.cause early) in
    let p = err_from_is_err_and c.from_residual.result c.from_residual.ensures.1 in
    rw (p.1, p.2) (λ is_open alone empty. subst (λ h. IsExcused (state g.S.Store old) (state g.S.Store h) c.in_err-create_tables.field-0.0) same
    (excused_on (state g.S.Store old) (state g.S.Store mid) (state g.S.Store end) c.in_err-create_tables.field-0.0 c.drop-tx.ensures.survives.counts (why is_open refl empty)))
