use Rattle.std.proofs.Common.{◌≡◌, ◌∙◌, [], sym, subst, rules}
use Rattle.std.specs.Prelude.{All}
use Rattle.std.proofs.lemmas.List.Elements.{All-cons, All-nil}
use Rattle.shared_desk.specs.{Calls.Locking, Desk.HasItsOwn}
use Rattle.shared_desk.proofs.locked.Locked.retire_each.Goals as goal

pub loop-pass-preserved : goal.loop-pass-preserved
loop-pass-preserved g c =
    let so_far = c.loop-pass.invariant in
    let desk = c.args.self.now in
    let own : HasItsOwn desk.book.list desk.book.tried c.in-Some.pass =
    subst (λ (l : Locking g.row.K.Denot). HasItsOwn l.book.list l.book.tried c.in-Some.pass) so_far.same c.retire.ensures.own in
    record {
      same = c.retire.ensures.same ∙ so_far.same;
      left = λ rest.
          so_far.left (subst (All (HasItsOwn desk.book.list desk.book.tried)) (sym c.in-Some.ensures.items)
          (All-cons (HasItsOwn desk.book.list desk.book.tried) c.in-Some.pass c.pop_front.new.self.items own rest));
    }

pub returns-clause-own : goal.returns-clause-own
returns-clause-own g c =
    let desk = c.args.self.now in
    let none : c.loop-pass.passes.items ≡ [] = search rules in
    c.loop-pass.invariant.left (subst (All (HasItsOwn desk.book.list desk.book.tried)) (sym none) (All-nil (HasItsOwn desk.book.list desk.book.tried)))
