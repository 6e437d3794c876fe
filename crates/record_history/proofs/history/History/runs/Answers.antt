use Rattle.record_history.proofs.history.History.runs.Goals as goal

pub returns-clause-longest : goal.returns-clause-longest
returns-clause-longest c = rw c.of.ensures.records at c.runs_among.ensures.longest
