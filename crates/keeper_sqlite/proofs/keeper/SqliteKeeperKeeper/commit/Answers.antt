use Rattle.std.proofs.Common.{sym, subst}
use Rattle.sqlite.specs.Held.{state}
use Rattle.book_rows.specs.Book.{Book, IsBefore}
use Rattle.keeper_core.specs.declared.keeper.Committed.{Committed}
use Rattle.keeper_core.specs.Keeping.{Keeps, Commits, LeavesOrCommits}
use Rattle.store_write.specs.Effects.{BatchTrees}
use Rattle.keeper_sqlite.specs.Told.{Kept, Holds, HoldsBad, IsWell, CrashLeaves, TellsCrash, GoesOn, CommitsOn, LeavesBooks, FailsByFault}
use Rattle.std.proofs.lemmas.Bool.{both_ways}
use Rattle.keeper_sqlite.proofs.Taking.{failed_by_fault}
use Rattle.keeper_sqlite.proofs.Calls.{landed, landed_on, landed_row, landed_crash, landed_left, landed_well, not_landed_crash, not_landed_left, undone_on, undone_well}
use Rattle.keeper_sqlite.proofs.keeper.SqliteKeeperKeeper.commit.Goals as goal

pub returns-in-Ok-clause-leaves : goal.returns-in-Ok-clause-leaves
returns-in-Ok-clause-leaves g c =
    let next = subst (λ (k : Kept _). (book : Book) → Holds (state g.S.Store k.file) k.is_beside book → IsBefore book c.args.batch.now.act.n) (sym c.self.view_is) c.requires.next in
    subst (λ (k : Kept _). Commits (Holds (state g.S.Store k.file) k.is_beside) (Holds (state g.S.Store c.write_batch.new.conn) c.self.inside.is_beside) c.args.batch.now Committed.Done) c.self.view_is
    (landed (state g.S.Store c.self.inside.conn) (state g.S.Store c.write_batch.new.conn) c.self.inside.is_beside c.args.batch.now c.requires.batch c.write_batch.ensures.survives next c.in-Ok.ensures.done)

pub returns-in-Ok-clause-goes_on : goal.returns-in-Ok-clause-goes_on
returns-in-Ok-clause-goes_on g c =
    let next = subst (λ (k : Kept _). (book : Book) → Holds (state g.S.Store k.file) k.is_beside book → IsBefore book c.args.batch.now.act.n) (sym c.self.view_is) c.requires.next in
    subst (λ (k : Kept _). CommitsOn (state g.S.Store k.file) k.is_beside (state g.S.Store c.write_batch.new.conn) c.self.inside.is_beside c.args.batch.now Committed.Done) c.self.view_is
    (landed_on (state g.S.Store c.self.inside.conn) (state g.S.Store c.write_batch.new.conn) c.self.inside.is_beside c.args.batch.now c.requires.batch c.write_batch.ensures.survives next c.in-Ok.ensures.done)

pub returns-in-Ok-clause-crash : goal.returns-in-Ok-clause-crash
returns-in-Ok-clause-crash g c =
    let next = subst (λ (k : Kept _). (book : Book) → Holds (state g.S.Store k.file) k.is_beside book → IsBefore book c.args.batch.now.act.n) (sym c.self.view_is) c.requires.next in
    λ _. landed_crash (state g.S.Store c.self.inside.conn) (state g.S.Store c.write_batch.new.conn) c.self.inside.is_beside c.args.batch.now c.requires.batch c.write_batch.ensures.survives next c.in-Ok.ensures.done
    (g.met.S.Store.settled c.write_batch.new.conn.store)

pub returns-in-Ok-clause-left : goal.returns-in-Ok-clause-left
returns-in-Ok-clause-left g c =
    let next = subst (λ (k : Kept _). (book : Book) → Holds (state g.S.Store k.file) k.is_beside book → IsBefore book c.args.batch.now.act.n) (sym c.self.view_is) c.requires.next in
    landed_left (state g.S.Store c.self.inside.conn) (state g.S.Store c.write_batch.new.conn) c.self.inside.is_beside c.args.batch.now c.requires.batch c.write_batch.ensures.survives next c.in-Ok.ensures.done
    (g.met.S.Store.settled c.write_batch.new.conn.store)

pub returns-in-Ok-clause-kept_row : goal.returns-in-Ok-clause-kept_row
returns-in-Ok-clause-kept_row g c =
    let next = subst (λ (k : Kept _). (book : Book) → Holds (state g.S.Store k.file) k.is_beside book → IsBefore book c.args.batch.now.act.n) (sym c.self.view_is) c.requires.next in
    subst (λ (k : Kept _). Keeps (HoldsBad (state g.S.Store k.file) k.is_beside) (HoldsBad (state g.S.Store c.write_batch.new.conn) c.self.inside.is_beside)) c.self.view_is
    (landed_row (state g.S.Store c.self.inside.conn) (state g.S.Store c.write_batch.new.conn) c.self.inside.is_beside c.args.batch.now c.requires.batch c.write_batch.ensures.survives next c.in-Ok.ensures.done)

pub returns-then-is_want_of_memory-clause-crash : goal.returns-then-is_want_of_memory-clause-crash
returns-then-is_want_of_memory-clause-crash g c =
    let next = subst (λ (k : Kept _). (book : Book) → Holds (state g.S.Store k.file) k.is_beside book → IsBefore book c.args.batch.now.act.n) (sym c.self.view_is) c.requires.next in
    subst (λ (k : Kept _). TellsCrash (state g.S.Store c.write_batch.new.conn) c.self.inside.is_beside → LeavesOrCommits (Holds (state g.S.Store k.file) k.is_beside) (CrashLeaves (state g.S.Store k.file)) (CrashLeaves (state g.S.Store c.write_batch.new.conn)) c.args.batch.now) c.self.view_is
    (not_landed_crash (state g.S.Store c.self.inside.conn) (state g.S.Store c.write_batch.new.conn) c.self.inside.is_beside c.args.batch.now c.requires.batch c.write_batch.ensures.survives next)

pub returns-then-is_want_of_memory-clause-goes_on : goal.returns-then-is_want_of_memory-clause-goes_on
returns-then-is_want_of_memory-clause-goes_on g c =
    subst (λ (k : Kept _). GoesOn (state g.S.Store k.file) k.is_beside (state g.S.Store c.write_batch.new.conn) c.self.inside.is_beside) c.self.view_is
    (undone_on (state g.S.Store c.self.inside.conn) (state g.S.Store c.write_batch.new.conn) c.self.inside.is_beside c.in-Err.ensures.undone)

pub returns-then-is_want_of_memory-clause-left : goal.returns-then-is_want_of_memory-clause-left
returns-then-is_want_of_memory-clause-left g c =
    let next = subst (λ (k : Kept _). (book : Book) → Holds (state g.S.Store k.file) k.is_beside book → IsBefore book c.args.batch.now.act.n) (sym c.self.view_is) c.requires.next in
    subst (λ (k : Kept _). (book : Book) → Holds (state g.S.Store k.file) k.is_beside book → LeavesBooks (state g.S.Store k.file) k.is_beside → LeavesBooks (state g.S.Store c.write_batch.new.conn) c.self.inside.is_beside) c.self.view_is
    (not_landed_left (state g.S.Store c.self.inside.conn) (state g.S.Store c.write_batch.new.conn) c.self.inside.is_beside c.args.batch.now c.requires.batch c.write_batch.ensures.survives next)

pub returns-else-is_want_of_memory-clause-crash : goal.returns-else-is_want_of_memory-clause-crash
returns-else-is_want_of_memory-clause-crash g c =
    let next = subst (λ (k : Kept _). (book : Book) → Holds (state g.S.Store k.file) k.is_beside book → IsBefore book c.args.batch.now.act.n) (sym c.self.view_is) c.requires.next in
    subst (λ (n : Kept _). TellsCrash (state g.S.Store n.file) n.is_beside → LeavesOrCommits (Holds (state g.S.Store c.args.self.now.file) c.args.self.now.is_beside) (CrashLeaves (state g.S.Store c.args.self.now.file)) (CrashLeaves (state g.S.Store n.file)) c.args.batch.now) (sym c.count_fault.ensures.kept)
    (subst (λ (k : Kept _). TellsCrash (state g.S.Store c.write_batch.new.conn) c.self.inside.is_beside → LeavesOrCommits (Holds (state g.S.Store k.file) k.is_beside) (CrashLeaves (state g.S.Store k.file)) (CrashLeaves (state g.S.Store c.write_batch.new.conn)) c.args.batch.now) c.self.view_is
    (not_landed_crash (state g.S.Store c.self.inside.conn) (state g.S.Store c.write_batch.new.conn) c.self.inside.is_beside c.args.batch.now c.requires.batch c.write_batch.ensures.survives next))

pub returns-else-is_want_of_memory-clause-goes_on : goal.returns-else-is_want_of_memory-clause-goes_on
returns-else-is_want_of_memory-clause-goes_on g c =
    subst (λ (n : Kept _). GoesOn (state g.S.Store c.args.self.now.file) c.args.self.now.is_beside (state g.S.Store n.file) n.is_beside) (sym c.count_fault.ensures.kept)
    (subst (λ (k : Kept _). GoesOn (state g.S.Store k.file) k.is_beside (state g.S.Store c.write_batch.new.conn) c.self.inside.is_beside) c.self.view_is
    (undone_on (state g.S.Store c.self.inside.conn) (state g.S.Store c.write_batch.new.conn) c.self.inside.is_beside c.in-Err.ensures.undone))

pub returns-else-is_want_of_memory-clause-left : goal.returns-else-is_want_of_memory-clause-left
returns-else-is_want_of_memory-clause-left g c =
    let next = subst (λ (k : Kept _). (book : Book) → Holds (state g.S.Store k.file) k.is_beside book → IsBefore book c.args.batch.now.act.n) (sym c.self.view_is) c.requires.next in
    subst (λ (n : Kept _). (book : Book) → Holds (state g.S.Store c.args.self.now.file) c.args.self.now.is_beside book → LeavesBooks (state g.S.Store c.args.self.now.file) c.args.self.now.is_beside → LeavesBooks (state g.S.Store n.file) n.is_beside) (sym c.count_fault.ensures.kept)
    (subst (λ (k : Kept _). (book : Book) → Holds (state g.S.Store k.file) k.is_beside book → LeavesBooks (state g.S.Store k.file) k.is_beside → LeavesBooks (state g.S.Store c.write_batch.new.conn) c.self.inside.is_beside) c.self.view_is
    (not_landed_left (state g.S.Store c.self.inside.conn) (state g.S.Store c.write_batch.new.conn) c.self.inside.is_beside c.args.batch.now c.requires.batch c.write_batch.ensures.survives next))

pub returns-in-Ok-clause-well : goal.returns-in-Ok-clause-well
returns-in-Ok-clause-well g c =
    let next = subst (λ (k : Kept _). (book : Book) → Holds (state g.S.Store k.file) k.is_beside book → IsBefore book c.args.batch.now.act.n) (sym c.self.view_is) c.requires.next in
    subst (λ (k : Kept _). IsWell (state g.S.Store c.write_batch.new.conn) c.self.inside.is_beside → IsWell (state g.S.Store k.file) k.is_beside) c.self.view_is
    (landed_well (state g.S.Store c.self.inside.conn) (state g.S.Store c.write_batch.new.conn) c.self.inside.is_beside c.args.batch.now c.requires.batch c.write_batch.ensures.survives next c.in-Ok.ensures.done)

pub returns-then-is_want_of_memory-clause-well : goal.returns-then-is_want_of_memory-clause-well
returns-then-is_want_of_memory-clause-well g c =
    subst (λ (k : Kept _). IsWell (state g.S.Store c.write_batch.new.conn) c.self.inside.is_beside → IsWell (state g.S.Store k.file) k.is_beside) c.self.view_is
    (undone_well (state g.S.Store c.self.inside.conn) (state g.S.Store c.write_batch.new.conn) (BatchTrees (state g.S.Store c.self.inside.conn) c.args.batch.now) c.self.inside.is_beside c.write_batch.ensures.survives c.in-Err.ensures.undone)

pub returns-else-is_want_of_memory-clause-well : goal.returns-else-is_want_of_memory-clause-well
returns-else-is_want_of_memory-clause-well g c =
    subst (λ (n : Kept _). IsWell (state g.S.Store n.file) n.is_beside → IsWell (state g.S.Store c.args.self.now.file) c.args.self.now.is_beside) (sym c.count_fault.ensures.kept)
    (subst (λ (k : Kept _). IsWell (state g.S.Store c.write_batch.new.conn) c.self.inside.is_beside → IsWell (state g.S.Store k.file) k.is_beside) c.self.view_is
    (undone_well (state g.S.Store c.self.inside.conn) (state g.S.Store c.write_batch.new.conn) (BatchTrees (state g.S.Store c.self.inside.conn) c.args.batch.now) c.self.inside.is_beside c.write_batch.ensures.survives c.in-Err.ensures.undone))

pub returns-in-Ok-clause-tells_on : goal.returns-in-Ok-clause-tells_on
returns-in-Ok-clause-tells_on g c = λ well. returns-in-Ok-clause-goes_on g c well.0.0

pub returns-then-is_want_of_memory-clause-tells_on : goal.returns-then-is_want_of_memory-clause-tells_on
returns-then-is_want_of_memory-clause-tells_on g c = λ well. (returns-then-is_want_of_memory-clause-goes_on g c well.0.0 well.1).book

pub returns-else-is_want_of_memory-clause-tells_on : goal.returns-else-is_want_of_memory-clause-tells_on
returns-else-is_want_of_memory-clause-tells_on g c = λ well. (returns-else-is_want_of_memory-clause-goes_on g c well.0.0 well.1).book

pub returns-in-Ok-clause-failed : goal.returns-in-Ok-clause-failed
returns-in-Ok-clause-failed g c = λ clean failed. absurd (cc)

pub returns-then-is_want_of_memory-clause-failed : goal.returns-then-is_want_of_memory-clause-failed
returns-then-is_want_of_memory-clause-failed g c = λ clean failed. absurd (cc)

pub returns-else-is_want_of_memory-clause-failed : goal.returns-else-is_want_of_memory-clause-failed
returns-else-is_want_of_memory-clause-failed g c =
    let next = subst (λ (k : Kept _). (book : Book) → Holds (state g.S.Store k.file) k.is_beside book → IsBefore book c.args.batch.now.act.n) (sym c.self.view_is) c.requires.next in
    subst (λ (n : Kept _). FailsByFault (state g.S.Store c.args.self.now.file) c.args.self.now.is_beside (state g.S.Store n.file) c.args.batch.now Committed.Failed) (sym c.count_fault.ensures.kept)
    (subst (λ (k : Kept _). FailsByFault (state g.S.Store k.file) k.is_beside (state g.S.Store c.write_batch.new.conn) c.args.batch.now Committed.Failed) c.self.view_is
    (failed_by_fault (state g.S.Store c.self.inside.conn) (state g.S.Store c.write_batch.new.conn) c.self.inside.is_beside c.args.batch.now _ c.requires.batch next
    (λ memory. both_ways _ c.if-is_want_of_memory.false (c.is_want_of_memory.ensures.1 memory)) c.in-Err.ensures.cause))
