use Rattle.office_register.proofs.Words.{◌∙◌, sym, known_in}
use Rattle.std.proofs.lemmas.Bool.{leb-true}
use Rattle.office_register.proofs.Reviewed.{found_behind}
use Rattle.office_register.proofs.register.Register.review_day.Goals as goal

pub returns-in-Some : goal.returns-in-Some
returns-in-Some c =
    let review = rw c.in-Some.is at c.self.invariant.review in
    let unchanged = rw (← c.self.view_is) at (leb-true _ _ (sym c.is_unchanged.ensures ∙ c.if-is_unchanged.true)) in
    rw (← c.self.view_is) (found_behind (known_in c.self.inside) c.in-Some.reviewed review c.args.household unchanged)
