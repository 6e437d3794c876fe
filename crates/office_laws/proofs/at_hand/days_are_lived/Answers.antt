use Rattle.office_laws.proofs.Words.{arith}
use Rattle.office_laws.proofs.{Reached.books_are_kept, Rows.last_within}
use Rattle.office_laws.proofs.at_hand.days_are_lived.Goals as goal
use Rattle.office_laws.specs.AtHand.{LastDayIsLived}

last_day_is_lived : LastDayIsLived
last_day_is_lived capacity book reached = last_within book.acts (books_are_kept capacity book reached).acts.years

pub returns-clause-last : goal.returns-clause-last
returns-clause-last c = last_day_is_lived

pub returns-clause-next : goal.returns-clause-next
returns-clause-next c capacity book reached clock = omega (arith, last_day_is_lived capacity book reached)

pub returns-clause-stays : goal.returns-clause-stays
returns-clause-stays c capacity book reached clock = omega (arith, last_day_is_lived capacity book reached)
