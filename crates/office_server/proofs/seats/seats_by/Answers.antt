use Rattle.std.proofs.Common.{rules, arith, ◌≡◌, ◌∙◌, ◌+◌, List, [], ◌∷◌, ◌++◌, length, map, ap, sym, refl, subst}
use Rattle.std.specs.Prelude.{All}
use Rattle.std.proofs.lemmas.List.{length-append, map-append}
use Rattle.std.proofs.lemmas.List.Elements.{All-push}
use Rattle.desk_history.specs.declared.views.PassView.{PassView}
use Rattle.std.proofs.lemmas.Iterator.Adapters.{YieldsList-from_vec}
use Rattle.std.proofs.lemmas.Iterator.Consumers.{YieldsList-turn}
use Rattle.office_server.proofs.seats.seats_by.Goals as goal

pub push_reserved-requires : goal.push_reserved-requires
push_reserved-requires g c =
    let given = c.into_iter-pass-iterator.ensures.into_iter_gives in
    let whole = YieldsList-from_vec {s = c.into_iter-pass-iterator.result} c.args.passes.items given.0 (given.1 ∙ c.args.passes.ok.0) in
    let turn = YieldsList-turn whole c.loop-pass.yielded c.loop-pass.pass-iterator c.loop-pass.yielded_by c.next.result c.next.new.self c.in-Some.pass c.in-Some.is c.next.ensures.steps in
    omega (arith, turn.0, c.loop-pass.invariant.count, c.loop-pass.invariant.room, c.loop-pass.seats.ok.0)

pub loop-pass-preserved : goal.loop-pass-preserved
loop-pass-preserved g c =
    let seats = c.loop-pass.seats.items in
    let pass = c.in-Some.pass in
    let items = c.push_reserved.ensures.items in
    record {
      passes = ap (map (λ seat. seat.pass)) items ∙ map-append (λ seat. seat.pass) seats _ ∙ ap (λ (them : List PassView). them ++ pass ∷ []) c.loop-pass.invariant.passes;
      count = ap length items ∙ length-append seats _ ∙ ap (λ n. n + 1) c.loop-pass.invariant.count ∙ sym (length-append c.loop-pass.yielded (pass ∷ []));
      clock = subst (All (λ seat. seat.clock.now ≡ c.args.clock.now)) (sym items) (All-push (λ seat. seat.clock.now ≡ c.args.clock.now) seats _ c.loop-pass.invariant.clock refl);
      room = search rules;
    }
