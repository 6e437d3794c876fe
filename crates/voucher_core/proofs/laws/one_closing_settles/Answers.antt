use Rattle.voucher_core.proofs.Settled.{none_settled, closing_settles, pays_no_other}
use Rattle.voucher_core.proofs.laws.one_closing_settles.Goals as goal

pub returns-clause-begins : goal.returns-clause-begins
returns-clause-begins c = none_settled

pub returns-clause-settles : goal.returns-clause-settles
returns-clause-settles c = closing_settles

pub returns-clause-elsewhere : goal.returns-clause-elsewhere
returns-clause-elsewhere c = pays_no_other
