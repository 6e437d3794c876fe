use Rattle.std.proofs.Common.{rules}
use Rattle.http_front.proofs.replying.status_of.Goals as goal

pub returns-in_default-clause-value : goal.returns-in_default-clause-value
returns-in_default-clause-value c = search rules
