use Rattle.http_front.proofs.{ForPass.unread}
use Rattle.json_front.specs.Calls.{call_from}
use Rattle.http_front.proofs.passing.said_of_body_for.Goals as goal

pub returns-in-Err-NoMemory-clause-says : goal.returns-in-Err-NoMemory-clause-says
returns-in-Err-NoMemory-clause-says g c = unread (g.C.Clock.may_show c.args.clock.now) (call_from c.args.body.now) c.args.pass.now
