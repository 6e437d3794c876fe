use Rattle.http_front.proofs.passing.said_of_call_for.Goals as goal

pub returns-clause-says : goal.returns-clause-says
returns-clause-says g c = record {
  day = c.call-outcome.ensures.called.0;
  shown = c.call-outcome.ensures.called.1;
  reply = c.call-outcome.result.reply;
  called = c.call-outcome.ensures.called.2;
  goes_on = c.call-outcome.ensures.goes_on;
  legal = c.call-outcome.ensures.legal;
  cause = c.call-outcome.ensures.cause;
  told = c.said_of_reply.ensures.told;
}
