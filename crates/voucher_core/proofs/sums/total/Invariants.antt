use Rattle.voucher_core.proofs.Words.{◌≡◌, ◌*◌, pos, neg_ℤ, ◌≤ℤ◌, take, total}
use Rattle.voucher_core.proofs.sums.total.Given as goal

abbrev pub invariant-loop-line : goal.invariant-loop-line
invariant-loop-line l = record {
  sum : l.total ≡ total (take l.line-index l.lines);
  least : neg_ℤ (pos (2147483648 * l.line-index)) ≤ℤ l.total;
  most : l.total ≤ℤ pos (2147483648 * l.line-index);
}
