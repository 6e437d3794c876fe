use Rattle.record_history.proofs.Words.{IsIndexed, All-push}
use Rattle.record_history.proofs.lists.push_next.Goals as goal

pub returns-clause-indexed : goal.returns-clause-indexed
returns-clause-indexed c =
    rw c.push_reserved.ensures.items (All-push IsIndexed c.args.households.now.items c.push.new.self c.requires.indexed c.push.ensures.indexed)
