use Rattle.book_replay.proofs.Again.{replay_begins, replay_goes_on, replay_stops, replay_ends, replayed_is_given}
use Rattle.book_replay.proofs.laws.replay_is_kept.Goals as goal

pub returns-clause-begins : goal.returns-clause-begins
returns-clause-begins c = replay_begins

pub returns-clause-goes_on : goal.returns-clause-goes_on
returns-clause-goes_on c = replay_goes_on c.appended_is_accepted.ensures.accepted

pub returns-clause-stops : goal.returns-clause-stops
returns-clause-stops c = replay_stops

pub returns-clause-ends : goal.returns-clause-ends
returns-clause-ends c = replay_ends

pub returns-clause-given : goal.returns-clause-given
returns-clause-given c = replayed_is_given
