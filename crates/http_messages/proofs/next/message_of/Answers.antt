use Rattle.std.proofs.Common.{◌∙◌, refl, rules}
use Rattle.http_messages.proofs.Bodies.{made}
use Rattle.http_messages.proofs.next.message_of.Goals as goal

pub returns : goal.returns
returns c =
    made c.args.bytes.now c.args.found.now c.args.count _ c.requires.found c.requires.body c.requires.whole
    (c.in_ok-method.ensures ∙ c.of.ensures) (c.in_ok-target.ensures ∙ c.of-2.ensures) (search rules) refl
