use Rattle.std.proofs.Common.{sym, subst}
use Rattle.sqlite.specs.Held.{state}
use Rattle.book_rows.specs.Book.{Book}
use Rattle.keeper_core.specs.Keeping.{Keeps}
use Rattle.keeper_core.specs.declared.keeper.Loaded.{Loaded}
use Rattle.keeper_sqlite.specs.Told.{Kept, Holds, HoldsBad, IsWell, TellsNoMore, GoesOn, LeavesBooks, LoadFailsByFault, IsAnswer}
use Rattle.std.proofs.lemmas.Bool.{both_ways}
use Rattle.keeper_sqlite.proofs.Unloaded.{load_fails}
use Rattle.keeper_sqlite.proofs.keeper.SqliteKeeperKeeper.load.Goals as goal

pub returns-then-is_want_of_memory-clause-kept : goal.returns-then-is_want_of_memory-clause-kept
returns-then-is_want_of_memory-clause-kept g c =
    (subst (λ (k : Kept _). TellsNoMore (state g.S.Store k.file) k.is_beside (state g.S.Store c.load_noting.new.conn) c.load_noting.new.is_beside) c.self.view_is c.load_noting.ensures.tells).kept

pub returns-then-is_want_of_memory-clause-kept_row : goal.returns-then-is_want_of_memory-clause-kept_row
returns-then-is_want_of_memory-clause-kept_row g c =
    (subst (λ (k : Kept _). TellsNoMore (state g.S.Store k.file) k.is_beside (state g.S.Store c.load_noting.new.conn) c.load_noting.new.is_beside) c.self.view_is c.load_noting.ensures.tells).kept_row

pub returns-then-is_want_of_memory-clause-goes_on : goal.returns-then-is_want_of_memory-clause-goes_on
returns-then-is_want_of_memory-clause-goes_on g c =
    subst (λ (k : Kept _). GoesOn (state g.S.Store k.file) k.is_beside (state g.S.Store c.load_noting.new.conn) c.load_noting.new.is_beside) c.self.view_is c.load_noting.ensures.goes_on

pub returns-in-Ok-clause-kept : goal.returns-in-Ok-clause-kept
returns-in-Ok-clause-kept g c =
    (subst (λ (k : Kept _). TellsNoMore (state g.S.Store k.file) k.is_beside (state g.S.Store c.load_noting.new.conn) c.load_noting.new.is_beside) c.self.view_is c.load_noting.ensures.tells).kept

pub returns-in-Ok-clause-kept_row : goal.returns-in-Ok-clause-kept_row
returns-in-Ok-clause-kept_row g c =
    (subst (λ (k : Kept _). TellsNoMore (state g.S.Store k.file) k.is_beside (state g.S.Store c.load_noting.new.conn) c.load_noting.new.is_beside) c.self.view_is c.load_noting.ensures.tells).kept_row

pub returns-in-Ok-clause-goes_on : goal.returns-in-Ok-clause-goes_on
returns-in-Ok-clause-goes_on g c =
    subst (λ (k : Kept _). GoesOn (state g.S.Store k.file) k.is_beside (state g.S.Store c.load_noting.new.conn) c.load_noting.new.is_beside) c.self.view_is c.load_noting.ensures.goes_on

pub returns-else-is_want_of_memory-clause-kept : goal.returns-else-is_want_of_memory-clause-kept
returns-else-is_want_of_memory-clause-kept g c =
    subst (λ (n : Kept _). Keeps (Holds (state g.S.Store c.args.self.now.file) c.args.self.now.is_beside) (Holds (state g.S.Store n.file) n.is_beside)) (sym c.count_fault.ensures.kept)
    ((subst (λ (k : Kept _). TellsNoMore (state g.S.Store k.file) k.is_beside (state g.S.Store c.load_noting.new.conn) c.load_noting.new.is_beside) c.self.view_is c.load_noting.ensures.tells).kept)

pub returns-else-is_want_of_memory-clause-kept_row : goal.returns-else-is_want_of_memory-clause-kept_row
returns-else-is_want_of_memory-clause-kept_row g c =
    subst (λ (n : Kept _). Keeps (HoldsBad (state g.S.Store c.args.self.now.file) c.args.self.now.is_beside) (HoldsBad (state g.S.Store n.file) n.is_beside)) (sym c.count_fault.ensures.kept)
    ((subst (λ (k : Kept _). TellsNoMore (state g.S.Store k.file) k.is_beside (state g.S.Store c.load_noting.new.conn) c.load_noting.new.is_beside) c.self.view_is c.load_noting.ensures.tells).kept_row)

pub returns-else-is_want_of_memory-clause-goes_on : goal.returns-else-is_want_of_memory-clause-goes_on
returns-else-is_want_of_memory-clause-goes_on g c =
    subst (λ (n : Kept _). GoesOn (state g.S.Store c.args.self.now.file) c.args.self.now.is_beside (state g.S.Store n.file) n.is_beside) (sym c.count_fault.ensures.kept)
    (subst (λ (k : Kept _). GoesOn (state g.S.Store k.file) k.is_beside (state g.S.Store c.load_noting.new.conn) c.load_noting.new.is_beside) c.self.view_is c.load_noting.ensures.goes_on)

pub returns-else-is_want_of_memory-clause-found : goal.returns-else-is_want_of_memory-clause-found
returns-else-is_want_of_memory-clause-found g c =
    subst (λ (n : Kept _). (book : Book) → Holds (state g.S.Store n.file) n.is_beside book → LeavesBooks (state g.S.Store n.file) n.is_beside) (sym c.count_fault.ensures.kept) c.load_noting.ensures.found

pub returns-then-is_want_of_memory-clause-tells_on : goal.returns-then-is_want_of_memory-clause-tells_on
returns-then-is_want_of_memory-clause-tells_on g c = λ well. (returns-then-is_want_of_memory-clause-goes_on g c well.0.0 well.1).book

pub returns-in-Ok-clause-tells_on : goal.returns-in-Ok-clause-tells_on
returns-in-Ok-clause-tells_on g c = λ well. (returns-in-Ok-clause-goes_on g c well.0.0 well.1).book

pub returns-else-is_want_of_memory-clause-tells_on : goal.returns-else-is_want_of_memory-clause-tells_on
returns-else-is_want_of_memory-clause-tells_on g c = λ well. (returns-else-is_want_of_memory-clause-goes_on g c well.0.0 well.1).book

pub returns-then-is_want_of_memory-clause-well : goal.returns-then-is_want_of_memory-clause-well
returns-then-is_want_of_memory-clause-well g c =
    (subst (λ (k : Kept _). TellsNoMore (state g.S.Store k.file) k.is_beside (state g.S.Store c.load_noting.new.conn) c.load_noting.new.is_beside) c.self.view_is c.load_noting.ensures.tells).well

pub returns-in-Ok-clause-well : goal.returns-in-Ok-clause-well
returns-in-Ok-clause-well g c =
    (subst (λ (k : Kept _). TellsNoMore (state g.S.Store k.file) k.is_beside (state g.S.Store c.load_noting.new.conn) c.load_noting.new.is_beside) c.self.view_is c.load_noting.ensures.tells).well

pub returns-else-is_want_of_memory-clause-well : goal.returns-else-is_want_of_memory-clause-well
returns-else-is_want_of_memory-clause-well g c =
    subst (λ (n : Kept _). IsWell (state g.S.Store n.file) n.is_beside → IsWell (state g.S.Store c.args.self.now.file) c.args.self.now.is_beside) (sym c.count_fault.ensures.kept)
    ((subst (λ (k : Kept _). TellsNoMore (state g.S.Store k.file) k.is_beside (state g.S.Store c.load_noting.new.conn) c.load_noting.new.is_beside) c.self.view_is c.load_noting.ensures.tells).well)

pub returns-in-Ok-clause-failed : goal.returns-in-Ok-clause-failed
returns-in-Ok-clause-failed g c = λ clean failed. absurd (subst IsAnswer failed c.in-Ok.ensures.answer)

pub returns-then-is_want_of_memory-clause-failed : goal.returns-then-is_want_of_memory-clause-failed
returns-then-is_want_of_memory-clause-failed g c = λ clean failed. absurd (cc)

pub returns-else-is_want_of_memory-clause-failed : goal.returns-else-is_want_of_memory-clause-failed
returns-else-is_want_of_memory-clause-failed g c =
    subst (λ (n : Kept _). LoadFailsByFault (state g.S.Store c.args.self.now.file) c.args.self.now.is_beside (state g.S.Store n.file) Loaded.Failed) (sym c.count_fault.ensures.kept)
    (subst (λ (k : Kept _). LoadFailsByFault (state g.S.Store k.file) k.is_beside (state g.S.Store c.load_noting.new.conn) Loaded.Failed) c.self.view_is
    (load_fails (state g.S.Store c.self.inside.conn) (state g.S.Store c.load_noting.new.conn) c.self.inside.is_beside _
    (λ memory. both_ways _ c.if-is_want_of_memory.false (c.is_want_of_memory.ensures.1 memory)) c.in-Err.ensures.cause))
