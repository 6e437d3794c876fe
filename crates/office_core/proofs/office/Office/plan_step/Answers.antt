use Rattle.office_core.proofs.office.Office.plan_step.Goals as goal

pub returns-in-Some-clause-judged : goal.returns-in-Some-clause-judged
returns-in-Some-clause-judged c = c.repeated.ensures.judged c.args.session c.args.clock
