use Rattle.voucher_core.proofs.Words.{◌≡◌, ◌*◌, pos, neg_ℤ, ◌≤ℤ◌, take, paid}
use Rattle.voucher_core.proofs.book.paid_among.Given as goal

abbrev pub invariant-loop-line : goal.invariant-loop-line
invariant-loop-line l = record {
  sum : l.paid ≡ paid l.household l.month (take l.line-index l.lines);
  least : neg_ℤ (pos (2147483648 * l.line-index)) ≤ℤ l.paid;
  most : l.paid ≤ℤ pos (2147483648 * l.line-index);
}
