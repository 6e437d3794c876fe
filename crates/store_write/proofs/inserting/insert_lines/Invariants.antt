use Rattle.std.proofs.Common.{◌≡◌, ℕ, ◌+◌, [], true, take}
use Rattle.std.specs.List.{AllByRecursion}
use Rattle.store_sql.specs.{Schema.HasTables, Takes.HasNumbers, Tables.fits, Columns.lines}
use Rattle.sqlite.specs.{State.HasCleanDisk, State.KeepsCommit, State.Survives, Held.state}
use Rattle.store_write.specs.Effects.{Fills, line_part}
use Rattle.store_write.proofs.inserting.insert_lines.Given as goal

abbrev pub invariant-loop-line : goal.invariant-loop-line
invariant-loop-line g l =
    let old = state g.S.Store l.initial.tx.conn.now in
    let now = state g.S.Store l.tx.conn.now in
    (l.tx.conn.ghost_name ≡ l.initial.tx.conn.ghost_name) × Survives old now (λ _. ⊥) × (HasCleanDisk now → KeepsCommit old now) × (HasCleanDisk now → Fills [] [] (line_part (take l.line-index l.lines)) old now) × (HasCleanDisk now → (more : ℕ) → HasTables old.now.schema → HasNumbers (old.now.trees 4) (l.line-index + more) → HasNumbers (now.now.trees 4) more) × AllByRecursion (λ row. fits lines row ≡ true) (line_part (take l.line-index l.lines))
