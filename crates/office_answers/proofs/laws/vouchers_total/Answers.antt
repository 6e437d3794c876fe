use Rattle.office_answers.proofs.Whole.{vouchers_total}
use Rattle.office_answers.proofs.laws.vouchers_total.Goals as goal

pub returns : goal.returns
returns c = vouchers_total
