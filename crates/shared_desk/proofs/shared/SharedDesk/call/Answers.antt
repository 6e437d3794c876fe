use Rattle.std.proofs.Common.{rules}
use Rattle.shared_desk.proofs.shared.SharedDesk.call.Goals as goal

pub returns-clause-goes_on : goal.returns-clause-goes_on
returns-clause-goes_on g c = search rules

pub returns-clause-legal : goal.returns-clause-legal
returns-clause-legal g c = search rules

pub returns-clause-called : goal.returns-clause-called
returns-clause-called g c = search rules

pub returns-clause-cause : goal.returns-clause-cause
returns-clause-cause g c = search rules
