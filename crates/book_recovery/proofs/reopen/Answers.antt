use Rattle.std.proofs.Common.{◌<◌, IsTrue, Some, sym, subst}
use Rattle.std.proofs.Math.Logic.{∥∥₁_elim}
use denote.Struct.Props.{props}
use Rattle.sqlite_store.specs.Laws.{settled_at}
use Rattle.sqlite.specs.State.{HasCleanDisk}
use Rattle.sqlite.specs.Files.{file_state}
use Rattle.book_rows.specs.Book.{Book}
use Rattle.keeper_core.specs.Keeping.{LoadCause}
use Rattle.keeper_sqlite.specs.Told.{Kept, Holds, MayLeave, LoadFailsByFault}
use Rattle.book_recovery.proofs.Found.{opened_tells, left_tells, unopened, unloaded, given, given_once, open_or_fault}
use Rattle.book_recovery.proofs.reopen.Goals as goal

pub returns-in-Ok-clause-finds : goal.returns-in-Ok-clause-finds
returns-in-Ok-clause-finds g c well book held =
    let adopted = c.adopt-keeper.ensures in
    let clean = subst (λ (k : Kept _). HasCleanDisk (file_state k.file)) adopted (c.load-loaded.ensures.told well.0).0 in
    let opened = opened_tells c.args.files c.in-Ok.connection clean (c.in-Ok.ensures.opened clean) (c.in-Ok.ensures.found clean) book held in
    let told = (c.load-loaded.ensures.goes_on well.0.0 well.1).book book (subst (λ (k : Kept _). Holds (file_state k.file) k.is_beside book) (sym adopted) opened) in
    record { told = told; given = given (file_state c.load-loaded.new.self.file) c.load-loaded.new.self.is_beside c.load-loaded.result c.load-loaded.ensures.gives book told }

pub returns-in-Ok-clause-honest : goal.returns-in-Ok-clause-honest
returns-in-Ok-clause-honest g c tells =
    (c.in-Ok.ensures.found (subst (λ (k : Kept _). HasCleanDisk (file_state k.file)) c.adopt-keeper.ensures (c.load-loaded.ensures.told tells).0)).honest

pub returns-in-Ok-clause-kept : goal.returns-in-Ok-clause-kept
returns-in-Ok-clause-kept g c well rows book told =
    let adopted = c.adopt-keeper.ensures in
    let now = c.load-loaded.new.self in
    let clean = subst (λ (k : Kept _). HasCleanDisk (file_state k.file)) adopted (c.load-loaded.ensures.told well.0).0 in
    let tells : (after : Book) → MayLeave (file_state now.file) after → Holds (file_state now.file) now.is_beside after = λ after may.
    let was = subst (λ (k : Kept _). MayLeave (file_state k.file) after) adopted (c.load-loaded.ensures.crash well.0 (Some after) may) in
    let told = left_tells c.args.files c.in-Ok.connection (settled_at c.in-Ok.connection.store g.met.D.Disk.seen_may_stay) clean (c.in-Ok.ensures.opened clean) after was in
    (c.load-loaded.ensures.goes_on well.0.0 well.1).book after (subst (λ (k : Kept _). Holds (file_state k.file) k.is_beside after) (sym adopted) told) in
    record { told = told; books = c.load-loaded.ensures.found book told; alone = λ after may. given_once (file_state now.file) now.is_beside c.load-loaded.result rows c.load-loaded.ensures.gives after book (tells after may) told }

pub returns-in-Ok-clause-shut : goal.returns-in-Ok-clause-shut
returns-in-Ok-clause-shut g c tells =
    let adopted = c.adopt-keeper.ensures in
    let clean = subst (λ (k : Kept _). HasCleanDisk (file_state k.file)) adopted (c.load-loaded.ensures.told tells).0 in
    open_or_fault (file_state c.adopt-keeper.result.file) (file_state c.load-loaded.new.self.file) (c.load-loaded.ensures.stays_open tells.0 (subst (λ (k : Kept _). IsTrue (file_state k.file).is_open) (sym adopted) (c.in-Ok.ensures.opened clean).0.is_open))

pub returns-in-Ok-clause-cause : goal.returns-in-Ok-clause-cause
returns-in-Ok-clause-cause g c =
    subst (λ (k : Kept _). LoadCause k.faults c.load-loaded.new.self.faults c.load-loaded.result) c.adopt-keeper.ensures c.load-loaded.ensures.cause

pub returns-in-Err-clause-unopened : goal.returns-in-Err-clause-unopened
returns-in-Err-clause-unopened g c clean held = unopened c.args.files c.in-Err.unopened.1 c.in-Err.unopened.0 (c.in-Err.ensures.cause clean) held

pub returns-in-Ok-clause-failed : goal.returns-in-Ok-clause-failed
returns-in-Ok-clause-failed g c tells failed held =
    let adopted = c.adopt-keeper.ensures in
    let new = file_state c.load-loaded.new.self.file in
    let clean = subst (λ (k : Kept _). HasCleanDisk (file_state k.file)) adopted (c.load-loaded.ensures.told tells).0 in
    let why = subst (λ (k : Kept _). LoadFailsByFault (file_state k.file) k.is_beside new c.load-loaded.result) adopted c.load-loaded.ensures.failed in
    let counted_prop : IsProp (0 < new.faults) = hlevel props in
    ∥∥₁_elim held counted_prop (λ it.
    let told = opened_tells c.args.files c.in-Ok.connection clean (c.in-Ok.ensures.opened clean) (c.in-Ok.ensures.found clean) it.0 it.1 in
    unloaded (file_state c.in-Ok.connection) new c.load-loaded.result it.0 why tells.0 failed told c.in-Ok.ensures.fresh.unlimited)

pub returns-in-Err-clause-unharmed : goal.returns-in-Err-clause-unharmed
returns-in-Err-clause-unharmed g c = c.in-Err.ensures.unharmed
