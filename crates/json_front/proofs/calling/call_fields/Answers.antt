use Rattle.std.proofs.Common.{rules, arith}
use Rattle.std.proofs.lemmas.Grind.{common_steps}
use Rattle.json_front.specs.Calls.{call_fields}
use Rattle.json_front.proofs.calling.call_fields.Goals as goal

pub returns-in_err-clerk-clause-exact : goal.returns-in_err-clerk-clause-exact
unfolding call_fields
returns-in_err-clerk-clause-exact c = search rules

pub returns-in_err-request-clause-exact : goal.returns-in_err-request-clause-exact
unfolding call_fields
returns-in_err-request-clause-exact c = search rules

pub returns-in_err-command-clause-exact : goal.returns-in_err-command-clause-exact
unfolding call_fields
returns-in_err-command-clause-exact c = search rules

pub returns-clause-exact : goal.returns-clause-exact
unfolding call_fields
returns-clause-exact c = search rules

pub returns-clause-fit : goal.returns-clause-fit
returns-clause-fit c = grind (arith, common_steps)
