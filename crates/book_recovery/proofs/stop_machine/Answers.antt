use Rattle.book_recovery.proofs.Found.{clean_before}
use Rattle.book_recovery.proofs.stop_machine.Goals as goal

pub returns-clause-left : goal.returns-clause-left
returns-clause-left g c =
    record {
      honest = λ clean. c.stop-files.ensures.honest (clean_before _ _ _ _ c.crash.ensures.clean c.crash-2.ensures.clean clean);
      told = λ clean book told. c.stop-files.ensures.told (clean_before _ _ _ _ c.crash.ensures.clean c.crash-2.ensures.clean clean) book told _ (c.crash.ensures.left, c.crash-2.ensures.left);
      left = λ clean books. c.stop-files.ensures.left (clean_before _ _ _ _ c.crash.ensures.clean c.crash-2.ensures.clean clean) books _ (c.crash.ensures.left, c.crash-2.ensures.left);
    }
