use Rattle.manual_acts.proofs.page.Reached.{page_is_taken}
use Rattle.manual_acts.proofs.laws.page_is_taken.Goals as goal

pub returns : goal.returns
returns c = page_is_taken c.known_after_each_act.ensures c.new_replies.ensures
