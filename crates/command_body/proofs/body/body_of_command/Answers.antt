use Rattle.std.proofs.Common.{ap, ◌∙◌}
use Rattle.command_forms.specs.Commands.{command_in}
use Rattle.command_forms.proofs.CommandAgain.{body_again}
use Rattle.command_body.proofs.body.body_of_command.Goals as goal

pub returns-clause-read_again : goal.returns-clause-read_again
returns-clause-read_again c = λ fit. ap command_in c.in_ok-body.ensures ∙ body_again c.args.command.now fit c.held_command.ensures
