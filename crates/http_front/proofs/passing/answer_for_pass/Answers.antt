use Rattle.std.proofs.Common.{rules}
use Rattle.http_front.proofs.passing.answer_for_pass.Goals as goal

pub returns-clause-answers : goal.returns-clause-answers
returns-clause-answers g c = search rules
