use Rattle.office_laws.proofs.Replay.{acts_give_the_book, appended_is_replayed, replayed_is_appended, rows_are_of_the_session}
use Rattle.office_laws.proofs.laws.acts_give_the_book.Goals as goal

pub returns-clause-whole : goal.returns-clause-whole
returns-clause-whole c = acts_give_the_book

pub returns-clause-each : goal.returns-clause-each
returns-clause-each c = appended_is_replayed

pub returns-clause-back : goal.returns-clause-back
returns-clause-back c = replayed_is_appended

pub returns-clause-session : goal.returns-clause-session
returns-clause-session c = rows_are_of_the_session
