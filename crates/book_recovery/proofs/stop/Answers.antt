use Rattle.std.proofs.Common.{sym, ap, subst, not, ◌∙◌}
use Rattle.std.proofs.Math.Logic.{∥∥₁_map}
use Rattle.sqlite_store.specs.Laws.{settled_at}
use Rattle.sqlite.specs.Held.{Held}
use Rattle.sqlite.specs.State.{HasCleanDisk}
use Rattle.sqlite.specs.Files.{file_state}
use Rattle.keeper_sqlite.specs.Told.{Holds, LeavesBooks}
use Rattle.book_recovery.specs.Recovery.{HoldsLeft, HoldsTrees}
use Rattle.book_recovery.proofs.Left.{was_clean, leaves_held, holds_left, holds_told}
use Rattle.book_recovery.proofs.stop.Goals as goal

pub returns-clause-told : goal.returns-clause-told
returns-clause-told g c clean book told image left =
    let connection = c.release-connection.result in
    let tells = subst (λ (h : Held _). Holds (file_state h) c.args.keeper.is_beside book) (sym c.release-connection.ensures) told in
    let found = leaves_held connection.store c.into_store.result _ _ c.close.ensures clean c.into_store.ensures.quiet c.into_store.ensures.numbered c.into_store.ensures.sound image left in
    holds_told (file_state connection) c.args.keeper.is_beside image (settled_at connection.store g.met.D.Disk.seen_may_stay) (λ lives. (c.schema-schema.ensures.live lives).0)
    (c.is_autocommit-is_alone.ensures.settled (c.is_autocommit-is_alone.ensures.value ∙ ap not tells.ready.alone)) found book tells

pub returns-clause-left : goal.returns-clause-left
returns-clause-left g c clean books image left =
    let connection = c.release-connection.result in
    let leaves = subst (λ (h : Held _). LeavesBooks (file_state h) c.args.keeper.is_beside) (sym c.release-connection.ensures) books.1 in
    let before = was_clean connection.store c.into_store.result _ _ c.close.ensures clean c.into_store.ensures.quiet in
    let found = leaves_held connection.store c.into_store.result _ _ c.close.ensures clean c.into_store.ensures.quiet c.into_store.ensures.numbered c.into_store.ensures.sound image left in
    subst (λ (h : Held _). ∥ HoldsLeft (file_state h) image ∥₁) c.release-connection.ensures (holds_left (file_state connection) c.args.keeper.is_beside image leaves (before, books.0) found)

pub returns-clause-honest : goal.returns-clause-honest
returns-clause-honest g c clean =
    subst (λ (h : Held _). HasCleanDisk (file_state h)) c.release-connection.ensures (was_clean c.release-connection.result.store c.into_store.result _ _ c.close.ensures clean c.into_store.ensures.quiet)

pub returns-clause-leaves : goal.returns-clause-leaves
returns-clause-leaves g c clean image left =
    let connection = c.release-connection.result in
    let found = leaves_held connection.store c.into_store.result _ _ c.close.ensures clean c.into_store.ensures.quiet c.into_store.ensures.numbered c.into_store.ensures.sound image left in
    subst (λ (h : Held _). ∥ HoldsTrees (file_state h) image ∥₁) c.release-connection.ensures (∥∥₁_map found (λ it. record { trees = it.0; left = it.1; held = it.2 }))
