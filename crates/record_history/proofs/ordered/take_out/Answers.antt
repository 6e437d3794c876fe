use Rattle.record_history.proofs.Words.{◌∙◌, sym, Bool, Record, ◌==◌}
use Rattle.std.proofs.Common.{eqb-true}
use Rattle.std.proofs.lemmas.List.Quantifiers.{position-Some}
use Rattle.record_history.proofs.OrderedLemmas.{remove-is, all-stay, none_out}
use Rattle.record_history.proofs.ordered.take_out.Goals as goal

pub returns-then-number-eq0-clause-items : goal.returns-then-number-eq0-clause-items
returns-then-number-eq0-clause-items c = rw c.if-number-eq0.true (sym (none_out c.args.live.now.items c.requires.numbered))

pub returns-in-Some-clause-items : goal.returns-in-Some-clause-items
returns-in-Some-clause-items c =
    let goes : Record → Bool = λ r. r.number == c.args.number in
    let live = c.args.live.now.items in
    let found = position-Some goes live c.in-Some.place c.remove.result (sym (rw c.deref.ensures.value at c.place_of.ensures) ∙ c.in-Some.is) in
    c.remove.ensures.items ∙ remove-is c.args.number live c.in-Some.place c.remove.result c.requires.own found.0 (eqb-true _ _ found.1)

pub returns-in_default-clause-items : goal.returns-in_default-clause-items
returns-in_default-clause-items c =
    all-stay c.args.number c.args.live.now.items (sym (rw c.deref.ensures.value at c.place_of.ensures) ∙ c.in_default.is)
