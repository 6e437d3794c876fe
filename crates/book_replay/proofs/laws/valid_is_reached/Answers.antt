use Rattle.book_replay.proofs.Again.{valid_is_reached}
use Rattle.book_replay.proofs.laws.valid_is_reached.Goals as goal

pub returns : goal.returns
returns c = valid_is_reached c.appended_is_accepted.ensures.accepted
