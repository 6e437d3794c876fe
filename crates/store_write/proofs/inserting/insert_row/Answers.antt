use Rattle.std.proofs.Common.{inl, inr, rules, IsTrue}
use Rattle.sqlite.specs.Values.{bound}
use Rattle.store_write.specs.Causes.{IsRejected}
use Rattle.sqlite.specs.Held.{state}
use Rattle.store_write.proofs.Filled.{inserts, is_inside}
use Rattle.store_write.proofs.inserting.insert_row.Goals as goal

pub returns-then-count-eq1-clause-inserted : goal.returns-then-count-eq1-clause-inserted
returns-then-count-eq1-clause-inserted g c clean =
    let old = state g.S.Store c.args.tx.now.conn.now in
    let new = state g.S.Store c.execute.new.self.conn.now in
    let inside = is_inside old.in_transaction c.execute.ensures.ended c.in_ok-count.was in
    inserts c.args.sql.now _ old new _ c.if-count-eq1.true (c.in_ok-count.ensures.runs clean inside)

pub returns-in_err-count-clause-refused : goal.returns-in_err-count-clause-refused
returns-in_err-count-clause-refused g c clean =
    let old = state g.S.Store c.args.tx.now.conn.now in
    let new = state g.S.Store c.execute.new.self.conn.now in
    let it : IsTrue old.in_transaction → IsRejected c.args.sql.now (bound c.args.values.now) old new c.in_err-count.field-0.0 = λ inside. inl (c.in_err-count.ensures.runs clean inside) in
    search rules

pub returns-else-count-eq1-clause-refused : goal.returns-else-count-eq1-clause-refused
returns-else-count-eq1-clause-refused g c clean inside = inr (_, c.if-count-eq1.false, (c.in_ok-count.ensures.runs clean inside).0)
