use Rattle.voucher_core.proofs.Words.{arith, ints}
use Rattle.voucher_core.proofs.{Paid.paid-more, Totals.summed}
use Rattle.voucher_core.proofs.book.paid_among.Goals as goal

pub loop-line-preserved : goal.loop-line-preserved
loop-line-preserved c = record {
  sum =
      summed _ c.amount_for-paid.result _ _ _ c.loop-line.line-index c.loop-line.invariant.sum c.amount_for-paid.ensures.value
      (paid-more c.args.household c.args.month c.args.lines.now c.loop-line.line-index c.line-item.result c.loop-line-test.true c.line-item.is) (omega arith)
      c.loop-line.invariant.least c.loop-line.invariant.most c.amount_for-paid.ensures.least c.amount_for-paid.ensures.most;
  least = omega (arith, ints);
  most = omega (arith, ints);
}
