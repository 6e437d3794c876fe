use Rattle.std.proofs.Common.{rules}
use Rattle.shared_desk.proofs.shared.SharedDesk.ask.Goals as goal

pub returns-clause-answered : goal.returns-clause-answered
returns-clause-answered g c = search rules
