use Rattle.manual_acts.proofs.year.Reached.{year_is_taken}
use Rattle.manual_acts.proofs.laws.year_is_taken.Goals as goal

pub returns : goal.returns
returns c = year_is_taken c.known_after_each_act.ensures c.new_replies.ensures
