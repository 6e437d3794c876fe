use Rattle.office_acts.proofs.Accepts.{accepted, placed}
use Rattle.office_acts.proofs.judging.judge.Goals as goal

pub returns-clause-accepted : goal.returns-clause-accepted
returns-clause-accepted c =
    accepted c.args.register.now.known c.args.most c.args.today c.args.command.now c.requires.most c.requires.today c.requires.fit c.judge_any.result c.judge_any.ensures.judged

pub returns-clause-placed : goal.returns-clause-placed
returns-clause-placed c =
    placed c.args.register.now.known c.args.command.now c.judge_any.result
    (accepted c.args.register.now.known c.args.most c.args.today c.args.command.now c.requires.most c.requires.today c.requires.fit c.judge_any.result c.judge_any.ensures.judged)
