use Rattle.std.proofs.{Common.arith, lemmas.Grind.common_steps}
use Rattle.json_form.proofs.path.Path.under.Goals as goal

pub returns : goal.returns
returns c = grind (arith, common_steps)
