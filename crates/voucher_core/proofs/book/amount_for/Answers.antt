use Rattle.std.proofs.Common.{rules}
use Rattle.voucher_core.proofs.book.amount_for.Goals as goal

pub returns-then-eq-clause-value : goal.returns-then-eq-clause-value
returns-then-eq-clause-value c = search rules
