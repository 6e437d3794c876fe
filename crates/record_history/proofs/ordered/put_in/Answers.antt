use Rattle.record_history.proofs.Words.{◌≡◌}
use Rattle.std.specs.Prelude.{IsOk, insert}
use Rattle.std.proofs.lemmas.List.Sorted.{IsPermutation-insert}
use Rattle.record_history.proofs.OrderedLemmas.{in_order-insert}
use Rattle.record_history.proofs.ordered.put_in.Goals as goal

pub returns-clause-all : goal.returns-clause-all
returns-clause-all c =
    let done : IsOk c.insert.result = c.insert.ensures.succeeds c.requires.room in
    let placed : c.insert.new.self.items ≡ insert c.args.live.now.items c.how_many_before-at.result c.args.held = rw done at c.insert.ensures.items in
    rw placed (IsPermutation-insert c.args.live.now.items c.how_many_before-at.result c.args.held)

pub returns-clause-in_order : goal.returns-clause-in_order
returns-clause-in_order c =
    let done : IsOk c.insert.result = c.insert.ensures.succeeds c.requires.room in
    let placed : c.insert.new.self.items ≡ insert c.args.live.now.items c.how_many_before-at.result c.args.held = rw done at c.insert.ensures.items in
    rw placed (in_order-insert c.args.live.now.items c.how_many_before-at.result c.args.held (rw c.deref.ensures.value at c.how_many_before-at.ensures.bound)
    c.requires.in_order (rw c.deref.ensures.value at c.how_many_before-at.ensures.point) c.requires.newest)
