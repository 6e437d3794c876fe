use Rattle.serde_json.specs.View.{view}
use Rattle.json_form.specs.{Form.closed_by, Gives.Gives}
use Rattle.facts_core.specs.Facts.{facts_at, facts_members}
use Rattle.facts_core.proofs.facts.FactsFormed.of_value.Goals as goal

pub returns : goal.returns
unfolding facts_at
returns c =
    let closed : Gives (λ facts. facts) c.closed.result (closed_by facts_members c.in_ok-facts.facts (view c.args.value.now)) = c.closed.ensures.exact in
    simp (c.in_ok-object.ensures, c.in_ok-facts.ensures) closed
