use Rattle.voucher_core.proofs.Words.{◌≡◌, ◌<◌, ◌≤◌, length, get_or, arith, records_of}
use Rattle.std.proofs.Common.{rules}
use Rattle.std.proofs.lemmas.List.{take_all}
use Rattle.voucher_core.proofs.Counted.{corrected_more}
use Rattle.voucher_core.proofs.starts.next_corrected.Goals as goal

pub loop-held-preserved : goal.loop-held-preserved
loop-held-preserved c =
    let within : c.loop-held.held-index < length c.args.newer.now = search rules in
    let at : get_or c.args.newer.now c.loop-held.held-index c.held-item.result ≡ c.held-item.result = search rules in
    record {
      after = c.next_by_one-next.ensures.after;
      within = omega arith;
      apart =
          corrected_more (records_of c.args.history.now.households c.args.household) c.args.newer.now c.args.day c.loop-held.next c.next_by_one-next.result
          c.loop-held.held-index c.held-item.result within at c.next_by_one-next.ensures.within c.loop-held.invariant.apart c.next_by_one-next.ensures.apart;
    }

pub returns-clause-apart : goal.returns-clause-apart
returns-clause-apart c =
    let past : length c.args.newer.now ≤ c.loop-held.held-index = search rules in
    let all = take_all c.loop-held.held-index c.args.newer.now past in
    rw all at c.loop-held.invariant.apart
