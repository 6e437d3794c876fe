use Rattle.shared_desk.proofs.Going.{histories_are_reached, histories_are_few, histories_are_upheld}
use Rattle.shared_desk.proofs.laws.histories_are_reached.Goals as goal

pub returns-clause-reached : goal.returns-clause-reached
returns-clause-reached c = histories_are_reached c.acts_give_the_book.ensures.back

pub returns-clause-few : goal.returns-clause-few
returns-clause-few c = histories_are_few c.acts_give_the_book.ensures.back c.books_are_kept.ensures

pub returns-clause-upheld : goal.returns-clause-upheld
returns-clause-upheld c = histories_are_upheld c.acts_give_the_book.ensures.back c.books_are_upheld.ensures
