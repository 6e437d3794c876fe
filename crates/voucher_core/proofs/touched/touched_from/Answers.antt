use Rattle.std.proofs.lemmas.List.{take_all}
use Rattle.voucher_core.proofs.Words.{records_of, AreNumbered}
use Rattle.voucher_core.proofs.Newer.{touches}
use Rattle.voucher_core.proofs.touched.touched_from.Goals as goal

pub returns : goal.returns
returns c =
    let own = records_of c.args.history.now.households c.args.household in
    let numbered : AreNumbered own = rw c.records.ensures.records at c.records.ensures.numbered in
    let all = take_all c.loop-held.held-index c.made_after-newer.result.now c.loop-held-test.false in
    touches own numbered c.args.last_close c.loop-held.first (rw (all, c.made_after-newer.ensures, c.records.ensures.records) at c.loop-held.invariant)
