use Rattle.voucher_core.proofs.Words.{arith, List, Record, AreNumbered, records_of, live_records}
use Rattle.voucher_core.proofs.Counted.{none_sooner, counted_apart}
use Rattle.voucher_core.proofs.Unchanged.{all_known}
use Rattle.voucher_core.proofs.starts.next_counted.Goals as goal

pub returns-then-newest_act-act-clause-apart : goal.returns-then-newest_act-act-clause-apart
returns-then-newest_act-act-clause-apart c =
    let own : List Record = records_of c.args.history.now.households c.args.household in
    λ counting. rw (all_known c.args.act own (omega (arith, c.newest_act.ensures, c.if-newest_act-act.true))) counting

pub returns-clause-apart : goal.returns-clause-apart
returns-clause-apart c =
    let own : List Record = records_of c.args.history.now.households c.args.household in
    let numbered : AreNumbered own = rw c.records.ensures.records at c.records.ensures.numbered in
    λ counting.
    counted_apart own numbered c.args.act c.args.day c.next_corrected.result
    (none_sooner c.args.day c.args.end c.next_corrected.result (live_records own) c.next_corrected.ensures.within counting)
    (rw (c.made_after-newer.ensures, c.records.ensures.records) at c.next_corrected.ensures.apart)
