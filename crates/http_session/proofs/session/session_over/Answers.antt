use Rattle.std.proofs.Common.{[], inl, refl}
use Rattle.http_session.proofs.{Complete.completes, Endings.asked, Endings.ends_at_once}
use Rattle.http_session.proofs.session.session_over.Goals as goal

pub returns-in-Ok-clause-ends : goal.returns-in-Ok-clause-ends
returns-in-Ok-clause-ends g c = c.serve_all.ensures.ends

pub returns-in-Ok-clause-asked : goal.returns-in-Ok-clause-asked
returns-in-Ok-clause-asked g c =
    asked g.D.Desk.answers g.D.Desk.gives_up g.D.Desk.point _ _ (g.S.Source.left c.args.source.now) (g.S.Source.left c.serve_all.new.source)
    (g.W.Sink.held c.args.sink.now) (g.W.Sink.held c.serve_all.new.sink) c.serve_all.result c.serve_all.ensures.ends

pub returns-in-Ok-clause-complete : goal.returns-in-Ok-clause-complete
returns-in-Ok-clause-complete g c =
    completes g.D.Desk.answers g.D.Desk.gives_up g.D.Desk.point _ _ _ (g.S.Source.left c.serve_all.new.source) _ _ c.serve_all.result c.serve_all.ensures.ends

pub returns-in-Ok-clause-cause : goal.returns-in-Ok-clause-cause
returns-in-Ok-clause-cause g c = c.serve_all.ensures.cause

pub returns-in-Err-clause-ends : goal.returns-in-Err-clause-ends
returns-in-Err-clause-ends g c = ends_at_once g.D.Desk.answers g.D.Desk.gives_up g.D.Desk.point _ _ _

pub returns-in-Err-clause-asked : goal.returns-in-Err-clause-asked
returns-in-Err-clause-asked g c = ([], [], c.args.desk.now, refl, inl refl)

pub returns-in-Err-clause-follows : goal.returns-in-Err-clause-follows
returns-in-Err-clause-follows g c = g.met.D.Desk.stays c.args.desk.now
