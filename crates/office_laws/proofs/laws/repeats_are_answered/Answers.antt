use Rattle.office_laws.proofs.Replies.{replies_stay, repeats_are_answered, first_replies_are_given_again}
use Rattle.office_laws.proofs.laws.repeats_are_answered.Goals as goal

pub returns-clause-stay : goal.returns-clause-stay
returns-clause-stay c = replies_stay

pub returns-clause-answered : goal.returns-clause-answered
returns-clause-answered c = repeats_are_answered

pub returns-clause-first : goal.returns-clause-first
returns-clause-first c = first_replies_are_given_again
