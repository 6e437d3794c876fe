use Rattle.wait_list.proofs.Words.{◌∙◌, sym, Bool, Applicant}
use Rattle.std.specs.Prelude.{◌==◌}
use Rattle.std.proofs.Common.{eqb-true}
use Rattle.std.proofs.lemmas.List.Quantifiers.{position-Some}
use Rattle.wait_list.proofs.Standing.{remove-is, all-stay}
use Rattle.wait_list.proofs.ranking.take_out.Goals as goal

pub returns-in-Some-clause-items : goal.returns-in-Some-clause-items
returns-in-Some-clause-items c =
    let goes : Applicant → Bool = λ applicant. applicant.number == c.args.number in
    let applicants = c.args.applicants.now.items in
    let found = position-Some goes applicants c.in-Some.place c.remove.result (sym (rw c.deref.ensures.value at c.place_of.ensures) ∙ c.in-Some.is) in
    c.remove.ensures.items ∙ remove-is c.args.number applicants c.in-Some.place c.remove.result c.requires found.0 (eqb-true _ _ found.1)

pub returns-in_default-clause-items : goal.returns-in_default-clause-items
returns-in_default-clause-items c =
    all-stay c.args.number c.args.applicants.now.items (sym (rw c.deref.ensures.value at c.place_of.ensures) ∙ c.in_default.is)
