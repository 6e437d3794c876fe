use Rattle.std.proofs.Math.Logic.{∥∥₁_map}
use Rattle.book_recovery.proofs.Found.{on_ok, on_both, on_errs, gives_either, holds_some}
use Rattle.book_recovery.proofs.restart.Goals as goal

pub returns-clause-told : goal.returns-clause-told
returns-clause-told g c =
    on_both c.reopen.result c.reopen.ensures.finds c.reopen.ensures.honest (λ it finds honest well book told.
    finds well book (c.stop_machine-files.ensures.left.told (honest well.0) book told))

pub returns-clause-recovers : goal.returns-clause-recovers
returns-clause-recovers g c =
    on_both c.reopen.result c.reopen.ensures.finds c.reopen.ensures.honest (λ it finds honest well books.
    ∥∥₁_map (c.stop_machine-files.ensures.left.left (honest well.0) books) (λ held. record { book = held.book; left = held.left; found = finds well held.book held.held }))

pub returns-clause-acknowledged : goal.returns-clause-acknowledged
returns-clause-acknowledged g c =
    on_ok c.reopen.result (returns-clause-recovers g c) (λ it recovers well books book further most. gives_either c.args.keeper it.keeper book further most it.loaded (recovers well books))

pub returns-clause-honest : goal.returns-clause-honest
returns-clause-honest g c =
    on_ok c.reopen.result c.reopen.ensures.honest (λ it honest tells. c.stop_machine-files.ensures.left.honest (honest tells))

pub returns-clause-failed : goal.returns-clause-failed
returns-clause-failed g c =
    on_both c.reopen.result c.reopen.ensures.failed c.reopen.ensures.honest (λ it fails honest tells failed has.
    fails tells failed (holds_some c.args.keeper c.stop_machine-files.result c.stop_machine-files.ensures.left (honest tells) has))

pub returns-clause-unopened : goal.returns-clause-unopened
returns-clause-unopened g c =
    on_errs c.reopen.result c.reopen.ensures.unopened c.reopen.ensures.unharmed (λ e cause unharmed clean.
    record { files = c.stop_machine-files.result; stopped = c.stop_machine-files.ensures.left; refused = record { cause = cause clean; unharmed = unharmed clean } })
