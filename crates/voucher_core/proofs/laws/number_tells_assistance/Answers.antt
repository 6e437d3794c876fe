use Rattle.voucher_core.proofs.Named.{number_tells}
use Rattle.voucher_core.proofs.laws.number_tells_assistance.Goals as goal

pub returns : goal.returns
returns c = number_tells
