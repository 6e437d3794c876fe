use Rattle.std.proofs.Common.{◌≡◌, subst, rules, arith}
use Rattle.sqlite.specs.{State.HasCleanDisk, State.Survives, Held.state}
use Rattle.sqlite.proofs.{StateLemmas.survives_then, Callers.survives_begin}
use Rattle.store_write.specs.Effects.{BatchTrees}
use Rattle.store_write.proofs.Transactions.{batch_trees}
use Rattle.store_write.proofs.writing.write_batch.Goals as goal

pub returns-clause-survives : goal.returns-clause-survives
returns-clause-survives g c =
    let old = c.args.conn.now in
    let mid = c.fill.new.tx.conn.now in
    let end = c.commit.new.self.0 in
    let begun = c.transaction-tx.ensures.begun in
    let filled = c.in_ok-fill.ensures in
    let P = BatchTrees (state g.S.Store old) c.args.batch.now in
    let whole = survives_then (state g.S.Store old) (state g.S.Store mid) (state g.S.Store end) _ _ P (λ _ db none. absurd none)
    (λ clean db is.
    let earlier : HasCleanDisk (state g.S.Store mid) = omega (arith, c.commit.ensures.survives.clean, clean) in
    batch_trees (state g.S.Store old) (state g.S.Store mid) c.args.batch.now db (rw begun at (filled.filled earlier)).schema (rw begun at (filled.filled earlier)).rows (filled.live earlier) filled.fit (rw begun at (filled.known earlier)) is)
    (survives_begin g.S.Store old (state g.S.Store mid) _ (rw begun at filled.survives)) c.commit.ensures.survives in
    let same : end ≡ c.conn-2-1.given.0 = search rules in
    subst (λ h. Survives (state g.S.Store old) (state g.S.Store h) P) same whole
