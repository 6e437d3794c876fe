use Rattle.command_forms.proofs.CommandAgain.{of_no_command}
use Rattle.command_text.proofs.body.command_of_body.Goals as goal

pub returns-clause-of_no_command : goal.returns-clause-of_no_command
returns-clause-of_no_command c = λ bad. of_no_command c.args.body.now (c.own_command.ensures.bad_body bad)
