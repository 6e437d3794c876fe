use Rattle.shared_desk.proofs.Going.{histories_go_on, histories_were_legal}
use Rattle.shared_desk.proofs.laws.histories_go_on.Goals as goal

pub returns-clause-go_on : goal.returns-clause-go_on
returns-clause-go_on c = histories_go_on c.acts_give_the_book.ensures.each

pub returns-clause-were : goal.returns-clause-were
returns-clause-were c = histories_were_legal
