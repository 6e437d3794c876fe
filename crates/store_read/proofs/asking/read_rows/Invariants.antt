use Rattle.std.proofs.Common.{◌≡◌, false}
use Rattle.sqlite.specs.State.{HasCleanDisk, Survives}
use Rattle.sqlite.specs.Held.{state}
use Rattle.store_sql.specs.Tables.{select_text}
use Rattle.store_read.proofs.Asked.{HasRead}
use Rattle.store_read.proofs.asking.read_rows.Given as goal

abbrev pub invariant-rows : goal.invariant-rows
invariant-rows g l =
    let old = state g.S.Store l.fn.conn in
    let now = state g.S.Store l.rows.conn.now in
    (l.rows.conn.ghost_name ≡ l.initial.rows.conn.ghost_name) × (l.rows.conn.now.in_transaction ≡ false) × Survives old now (λ _. ⊥) × (HasCleanDisk now → HasRead g.S.Store (select_text g.T.StoredRow.table) l.fn.conn l.rows.conn.now l.read)
