use Rattle.desk_history.specs.Seen.{point_of}
use Rattle.http_session.proofs.Endings.{ends_at_once}
use Rattle.http_front.specs.Passes.{AnswersPass, NeverSilent}
use Rattle.http_front.proofs.sharing.session.Goals as goal

pub returns-in-Err-clause-ends : goal.returns-in-Err-clause-ends
returns-in-Err-clause-ends g c = ends_at_once (AnswersPass (g.C.Clock.may_show c.args.clock.now)) NeverSilent point_of _ _ _
