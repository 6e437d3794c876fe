use Rattle.record_history.proofs.Words.{◌≡◌, ◌<◌, ◌==◌, ◌∙◌, sym, true, Record, All-filter, comes_before}
use Rattle.std.specs.Prelude.{not}
use Rattle.std.proofs.lemmas.List.Kept.{AllPairs-filter}
use Rattle.record_history.proofs.OrderedLemmas.{follows-put, follows-gone}
use Rattle.record_history.proofs.ordered.follow.Goals as goal

pub put_in-requires-clause-in_order : goal.put_in-requires-clause-in_order
put_in-requires-clause-in_order c =
    rw c.take_out.ensures.items
    (AllPairs-filter (λ r next. comes_before r next ≡ true) (λ (r : Record). not (r.number == c.args.held.now.corrects)) c.args.live.now.items c.requires.in_order)

pub put_in-requires-clause-newest : goal.put_in-requires-clause-newest
put_in-requires-clause-newest c =
    rw c.take_out.ensures.items
    (All-filter (λ (r : Record). not (r.number == c.args.held.now.corrects)) (λ (r : Record). r.number < c.args.held.now.number) c.args.live.now.items c.requires.newest)

pub returns-then-not-is_withdrawal-clause-live : goal.returns-then-not-is_withdrawal-clause-live
returns-then-not-is_withdrawal-clause-live c =
    follows-put c.args.live.now.items c.args.held.now c.put_in.new.live.items (sym c.is_withdrawal.ensures ∙ c.if-not-is_withdrawal.true)
    (rw c.take_out.ensures.items at c.put_in.ensures.all) c.put_in.ensures.in_order

pub returns-else-not-is_withdrawal-clause-live : goal.returns-else-not-is_withdrawal-clause-live
returns-else-not-is_withdrawal-clause-live c =
    rw c.take_out.ensures.items
    (follows-gone c.args.live.now.items c.args.held.now (sym c.is_withdrawal.ensures ∙ c.if-not-is_withdrawal.false)
    (AllPairs-filter (λ r next. comes_before r next ≡ true) (λ (r : Record). not (r.number == c.args.held.now.corrects)) c.args.live.now.items c.requires.in_order))
