use Rattle.voucher_core.proofs.{Covered.month_covered, Named.lines_name_their_pairs}
use Rattle.voucher_core.proofs.laws.lines_name_their_pairs.Goals as goal

pub returns-clause-named : goal.returns-clause-named
returns-clause-named c = lines_name_their_pairs

pub returns-clause-longest : goal.returns-clause-longest
returns-clause-longest c = month_covered
