use Rattle.http_front.proofs.passing.answer_for.Goals as goal

pub returns-clause-says : goal.returns-clause-says
returns-clause-says g c = record {
  goes_on = c.ask-outcome.ensures.goes_on;
  legal = c.ask-outcome.ensures.legal;
  told = c.said_of_answer.ensures.said _ c.ask-outcome.ensures.answered;
}
