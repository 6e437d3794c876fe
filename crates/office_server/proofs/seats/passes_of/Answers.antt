use Rattle.std.proofs.Common.{rules, arith, ◌+◌, List, sym, subst}
use Rattle.desk_history.specs.declared.views.{PassView.PassView, Start.Start}
use Rattle.shared_desk.specs.Passes.{AreFresh, IsFresh}
use Rattle.shared_desk.proofs.Fresh.{fresh_push}
use Rattle.office_server.proofs.seats.passes_of.Goals as goal

pub loop-place-preserved : goal.loop-place-preserved
loop-place-preserved g c =
    let so_far = c.loop-place.invariant in
    let pass = c.next_pass-in-loop-place.result in
    let fresh : IsFresh c.args.desk.now.start (c.loop-place.desk.made + 1) pass =
    subst (λ (start : Start). IsFresh start (c.loop-place.desk.made + 1) pass) so_far.start c.next_pass-in-loop-place.ensures.fresh in
    record {
      start = search rules;
      made = search rules;
      fresh = subst (λ (all : List PassView). AreFresh c.args.desk.now.start 1 all) (sym c.push_reserved.ensures.items)
          (fresh_push c.args.desk.now.start 1 (c.loop-place.desk.made + 1) c.loop-place.passes.items pass so_far.fresh
          (omega (arith, so_far.made, so_far.count)) fresh);
      count = search rules;
      room = search rules;
    }
