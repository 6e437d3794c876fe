use Rattle.std.proofs.lemmas.Result.{err_from_is_err_and}
use Rattle.json_form.proofs.Faults.{Faults-then}
use Rattle.command_forms.specs.Property.{rents_at}
use Rattle.command_text.proofs.property.rents_of.Goals as goal

pub returns-in_err-contract_rent-clause-exact : goal.returns-in_err-contract_rent-clause-exact
unfolding rents_at
returns-in_err-contract_rent-clause-exact c =
    let p = err_from_is_err_and c.from_residual-in_err-contract_rent.result c.from_residual-in_err-contract_rent.ensures.1 in
    rw (p.1, p.2) (simp (c.in_ok-group.ensures.exact, c.in_ok-from.ensures) (Faults-then c.in_err-contract_rent.field-0.0 _ _ c.in_err-contract_rent.ensures.exact))

pub returns-in_err-utility-clause-exact : goal.returns-in_err-utility-clause-exact
unfolding rents_at
returns-in_err-utility-clause-exact c =
    let p = err_from_is_err_and c.from_residual-in_err-utility.result c.from_residual-in_err-utility.ensures.1 in
    rw (p.1, p.2) (simp (c.in_ok-group.ensures.exact, c.in_ok-from.ensures, c.in_ok-contract_rent.ensures.exact) (Faults-then c.in_err-utility.field-0.0 _ _ c.in_err-utility.ensures.exact))

pub returns-clause-exact : goal.returns-clause-exact
unfolding rents_at
returns-clause-exact c = simp (c.in_ok-group.ensures.exact, c.in_ok-from.ensures, c.in_ok-contract_rent.ensures.exact, c.in_ok-utility.ensures.exact)
