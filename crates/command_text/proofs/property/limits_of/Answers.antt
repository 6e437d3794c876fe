use Rattle.command_forms.specs.Property.{limits_act_at}
use Rattle.command_text.proofs.property.limits_of.Goals as goal

pub returns-clause-exact : goal.returns-clause-exact
unfolding limits_act_at
returns-clause-exact c = simp (c.in_ok-from.ensures, c.in_ok-low.ensures.exact, c.in_ok-very_low.ensures.exact, c.in_ok-extremely_low.ensures.exact)
