use Rattle.office_laws.proofs.Words.{arith}
use Rattle.office_laws.proofs.Reached.{books_are_kept}
use Rattle.office_laws.proofs.at_hand.within_room.Goals as goal

pub returns-clause-acts : goal.returns-clause-acts
returns-clause-acts c capacity book reached most = omega (arith, (books_are_kept capacity book reached).room.acts)

pub returns-clause-lines : goal.returns-clause-lines
returns-clause-lines c capacity book reached most = omega (arith, (books_are_kept capacity book reached).room.lines)
