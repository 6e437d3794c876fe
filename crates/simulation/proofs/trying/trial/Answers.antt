use Rattle.std.proofs.Common.{◌≡◌, ◌∙◌, List, subst}
use Rattle.std.specs.Prelude.{IfOk}
use Rattle.generator.specs.{declared.act.MadeAct.MadeAct, Acts.made_acts}
use Rattle.batch_command.specs.Below.office_step.declared.call.Capacity.{Capacity}
use Rattle.simulation.specs.Trial.{book_after, summary}
use Rattle.simulation.proofs.trying.trial.Goals as goal

pub returns : goal.returns
returns c =
    subst (λ (k : Capacity). IfOk c.summed_up.result (λ text. text ≡ summary (book_after k (made_acts c.args.units)))) c.in_ok-office.ensures.capacity
    (subst (λ (acts : List MadeAct). IfOk c.summed_up.result (λ text. text ≡ summary (book_after c.in_ok-office.office.capacity acts)))
    (c.deref.ensures.value ∙ c.in_ok-acts.ensures) c.summed_up.ensures)
