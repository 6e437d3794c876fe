use Rattle.std.proofs.Common.{rules, arith, ◌∙◌, List, [], ◌∷◌, ◌++◌, length, map, ap, sym}
use Rattle.std.proofs.lemmas.List.{length-map, map-append}
use Rattle.std.proofs.lemmas.Iterator.Adapters.{YieldsList-from_vec}
use Rattle.std.proofs.lemmas.Iterator.Consumers.{YieldsList-turn}
use Rattle.desk_history.specs.declared.views.PassView.{PassView}
use Rattle.office_server.proofs.seats.passes_back.Goals as goal

pub push_reserved-requires : goal.push_reserved-requires
push_reserved-requires g c =
    let given = c.into_iter-seat-iterator.ensures.into_iter_gives in
    let whole = YieldsList-from_vec {s = c.into_iter-seat-iterator.result} c.args.seats.items given.0 (given.1 ∙ c.args.seats.ok.0) in
    let turn = YieldsList-turn whole c.loop-seat.yielded c.loop-seat.seat-iterator c.loop-seat.yielded_by c.next.result c.next.new.self c.in-Some.seat c.in-Some.is c.next.ensures.steps in
    let count = ap length c.loop-seat.invariant.passes ∙ length-map c.loop-seat.yielded (λ seat. seat.pass) in
    omega (arith, turn.0, count, c.loop-seat.invariant.room, c.loop-seat.passes.ok.0)

pub loop-seat-preserved : goal.loop-seat-preserved
loop-seat-preserved g c = record {
  passes = c.push_reserved.ensures.items ∙ ap (λ (them : List PassView). them ++ c.in-Some.seat.pass ∷ []) c.loop-seat.invariant.passes
      ∙ sym (map-append (λ seat. seat.pass) c.loop-seat.yielded (c.in-Some.seat ∷ []));
  room = search rules;
}
