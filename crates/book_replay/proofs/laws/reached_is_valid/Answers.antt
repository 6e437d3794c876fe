use Rattle.book_replay.proofs.Reached.{reached_is_valid}
use Rattle.book_replay.proofs.laws.reached_is_valid.Goals as goal

pub returns : goal.returns
returns c = reached_is_valid c.appended_is_accepted.ensures.accepted c.batches_follow.ensures c.books_are_kept.ensures
