use Rattle.office_laws.proofs.Words.{and_parts, is_fit}
use Rattle.command_forms.proofs.CommandAgain.{body_again}
use Rattle.office_laws.proofs.Inversion.{accepted, appended_again}
use Rattle.office_laws.proofs.laws.appended_is_accepted.Goals as goal

pub returns-clause-accepted : goal.returns-clause-accepted
returns-clause-accepted c = accepted

pub returns-clause-new : goal.returns-clause-new
returns-clause-new c capacity book session clock call rows fit holdable =
    appended_again capacity book session clock call rows fit (body_again call.command (and_parts _ (is_fit call.command) (and_parts _ _ fit).1).1 holdable)
