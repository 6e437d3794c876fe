use Rattle.std.proofs.Common.{◌≡◌, ◌∙◌, refl, sym}
use Rattle.desk_history.specs.Seen.{point_of}
use Rattle.http_front.specs.Passes.{AnswersPass, NeverSilent}
use Rattle.http_front.proofs.{ForPass.answers_shown, Seen.seen_ends, Seen.seen_told}
use Rattle.http_front.proofs.pass_desk.serve_pass.Goals as goal

pub returns-clause-ends : goal.returns-clause-ends
returns-clause-ends g c =
    seen_ends (λ desk. desk.pass.now) (λ desk. desk.clock.now ≡ c.args.desk.now.clock.now)
    _ (λ desk message desk_now. ⊥) _ (AnswersPass (g.C.Clock.may_show c.args.desk.now.clock.now)) NeverSilent point_of
    (λ desk message reply desk_now holds answer.
    (answers_shown g.C.Clock.may_show _ _ _ message reply _ (sym answer.1 ∙ holds) answer.0, sym answer.1 ∙ holds))
    (λ desk message desk_now holds silent. absurd silent)
    (λ desk holds. refl)
    c.args.desk.now c.session_over.new.desk _ _ _ _ c.session_over.result c.session_over.ensures.follows.2 c.session_over.ensures.ends

pub returns-clause-complete : goal.returns-clause-complete
returns-clause-complete g c =
    seen_told (λ desk. desk.pass.now) (λ desk. desk.clock.now ≡ c.args.desk.now.clock.now)
    _ (λ desk message desk_now. ⊥) _ (AnswersPass (g.C.Clock.may_show c.args.desk.now.clock.now)) NeverSilent point_of
    (λ desk message reply desk_now holds answer.
    (answers_shown g.C.Clock.may_show _ _ _ message reply _ (sym answer.1 ∙ holds) answer.0, sym answer.1 ∙ holds))
    (λ desk message desk_now holds silent. absurd silent)
    (λ desk holds. refl)
    c.args.desk.now c.session_over.new.desk _ _ (g.S.Source.left c.args.source.now) c.session_over.result c.session_over.ensures.follows.2 c.session_over.ensures.complete
