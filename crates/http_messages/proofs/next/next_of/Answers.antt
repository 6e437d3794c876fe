use Rattle.http_messages.proofs.Growth.{comes_after}
use Rattle.http_messages.proofs.next.next_of.Goals as goal

pub returns-in-Ok-clause-comes : goal.returns-in-Ok-clause-comes
returns-in-Ok-clause-comes g c = comes_after _ _ _ _ _ _ _ c.in-Head.ensures.comes.0 c.finish.ensures.comes
