use Rattle.voucher_core.proofs.Words.{records_of, live_records, BeginsNotWithin}
use Rattle.voucher_core.proofs.Counted.{all_in_order}
use Rattle.voucher_core.proofs.starts.next_counting.Goals as goal

pub returns-clause-apart : goal.returns-clause-apart
returns-clause-apart c =
    all_in_order (BeginsNotWithin c.args.day c.next_in_order.result) (live_records (records_of c.args.history.now.households c.args.household))
    c.live_records.result.now c.live_records.ensures.order c.next_in_order.ensures.apart
