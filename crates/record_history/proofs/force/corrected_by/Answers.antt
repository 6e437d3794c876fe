use Rattle.record_history.proofs.Words.{arith, sym}
use Rattle.record_history.proofs.CorrectedLemmas.{corrected_past, past_of}
use Rattle.record_history.proofs.force.corrected_by.Goals as goal

pub returns-in-None : goal.returns-in-None
returns-in-None c =
    let past = past_of c.args.own.now.corrected.items _ (rw c.deref.ensures.value at c.in-None.ensures) in
    sym (corrected_past c.args.own.now.records.items c.args.number c.requires.indexed.kept (omega (arith, past, c.requires.indexed.marked.long, c.requires.number)))
