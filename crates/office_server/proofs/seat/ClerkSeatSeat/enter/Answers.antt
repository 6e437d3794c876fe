use Rattle.std.proofs.Common.{◌≡◌, rules, sym, subst}
use Rattle.std.specs.Prelude.{Option, IsSomeAnd}
use Rattle.desk_history.specs.declared.views.NoteView.{NoteView}
use Rattle.http_front.specs.Together.{KnowsBeginning}
use Rattle.office_server.proofs.Logs.{knows_on, log_knows, noted_knows}
use Rattle.office_server.proofs.seat.ClerkSeatSeat.enter.Goals as goal

pub returns-clause-knows : goal.returns-clause-knows
returns-clause-knows g c =
    knows_on _ _ _ _ _ (sym c.with_before.ensures.own.0) c.with_before.ensures.own.1 (noted_knows c.note-own.result _ c.note-own.ensures.note)

pub returns-clause-knows_still : goal.returns-clause-knows_still
returns-clause-knows_still g c = λ seat known.
    let taken : c.take.result ≡ c.args.log.now = search rules in
    log_knows c.take.result _ _ seat.pass c.with_before.ensures.before
    (subst (λ (log : Option NoteView). IsSomeAnd log (λ note. KnowsBeginning note.start note.list seat.pass)) (sym taken) known)
