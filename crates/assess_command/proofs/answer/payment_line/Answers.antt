use Rattle.std.proofs.Common.{rules}
use Rattle.assess_command.proofs.answer.payment_line.Goals as goal

pub returns : goal.returns
returns c = search rules
