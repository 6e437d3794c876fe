use Rattle.voucher_core.proofs.Words.{arith, ints}
use Rattle.voucher_core.proofs.{Paid.total-more, Totals.summed}
use Rattle.voucher_core.proofs.sums.total.Goals as goal

pub loop-line-preserved : goal.loop-line-preserved
loop-line-preserved c = record {
  sum =
      summed _ c.amount_of-total.result _ _ _ c.loop-line.line-index c.loop-line.invariant.sum c.amount_of-total.ensures.value
      (total-more c.args.lines.now c.loop-line.line-index c.line-item.result c.loop-line-test.true c.line-item.is) (omega arith)
      c.loop-line.invariant.least c.loop-line.invariant.most c.amount_of-total.ensures.least c.amount_of-total.ensures.most;
  least = omega (arith, ints);
  most = omega (arith, ints);
}
