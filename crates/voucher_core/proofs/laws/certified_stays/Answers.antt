use Rattle.voucher_core.proofs.Settled.{certified_stays, settled_stays}
use Rattle.voucher_core.proofs.laws.certified_stays.Goals as goal

pub returns-clause-certified : goal.returns-clause-certified
returns-clause-certified c = certified_stays

pub returns-clause-settled : goal.returns-clause-settled
returns-clause-settled c = settled_stays
