use Rattle.http_messages.proofs.Bodies.{begins_message}
use Rattle.http_messages.proofs.next.finish.Goals as goal

pub returns-in_default-clause-comes : goal.returns-in_default-clause-comes
returns-in_default-clause-comes g c =
    let body = c.in-Bytes.ensures.comes in
    (body.0, begins_message c.read_body.new.held c.args.found.now c.args.count body.1 c.requires.body body.2)
