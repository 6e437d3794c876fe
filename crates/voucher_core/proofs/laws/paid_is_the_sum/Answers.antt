use Rattle.voucher_core.proofs.Paid.{paid_is_the_sum}
use Rattle.voucher_core.proofs.laws.paid_is_the_sum.Goals as goal

pub returns : goal.returns
returns c = paid_is_the_sum
