use Rattle.std.proofs.Common.{rules}
use Rattle.http_front.proofs.replying.replied.Goals as goal

pub returns-in-Err-NoMemory-clause-exact : goal.returns-in-Err-NoMemory-clause-exact
returns-in-Err-NoMemory-clause-exact c = search rules
