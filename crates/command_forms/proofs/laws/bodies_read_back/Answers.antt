use Rattle.command_forms.proofs.CommandAgain.{body_again, same_again}
use Rattle.command_forms.proofs.laws.bodies_read_back.Goals as goal

pub returns-clause-again : goal.returns-clause-again
returns-clause-again c = body_again

pub returns-clause-same : goal.returns-clause-same
returns-clause-same c = same_again
