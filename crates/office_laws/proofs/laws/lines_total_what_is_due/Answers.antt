use Rattle.office_laws.proofs.Words.{known_of, own_in}
use Rattle.office_laws.proofs.Conserved.{lines_are_settled, month_total}
use Rattle.office_laws.proofs.laws.lines_total_what_is_due.Goals as goal

pub returns-clause-settled : goal.returns-clause-settled
returns-clause-settled c = lines_are_settled

pub returns-clause-total : goal.returns-clause-total
returns-clause-total c capacity book reached =
    month_total (own_in (known_of book)) (known_of book).plan (known_of book).closing book.lines (lines_are_settled capacity book reached)
