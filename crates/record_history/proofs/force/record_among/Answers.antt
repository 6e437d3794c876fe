use Rattle.record_history.proofs.Words.{arith, ◌∙◌}
use Rattle.record_history.proofs.CorrectedLemmas.{find_zero, find_number}
use Rattle.record_history.proofs.force.record_among.Goals as goal

pub returns-then-number-eq0 : goal.returns-then-number-eq0
returns-then-number-eq0 c = find_zero c.args.own.now.records.items c.requires.kept.numbered c.args.number (omega (arith, c.if-number-eq0.true))

pub returns : goal.returns
returns c =
    rw c.deref.ensures.value at c.item_at.ensures
    ∙ find_number c.args.own.now.records.items c.requires.kept.numbered c.args.number (omega (arith, c.if-number-eq0.false))
