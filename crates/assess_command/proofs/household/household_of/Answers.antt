use Rattle.std.proofs.lemmas.Result.{err_from_is_err_and}
use Rattle.json_form.proofs.Faults.{Faults-then}
use Rattle.assess_command.specs.Household.{household_at}
use Rattle.assess_command.proofs.household.household_of.Goals as goal

pub returns-in_err-contract_rent-clause-exact : goal.returns-in_err-contract_rent-clause-exact
unfolding household_at
returns-in_err-contract_rent-clause-exact c =
    let p = err_from_is_err_and c.from_residual-in_err-contract_rent.result c.from_residual-in_err-contract_rent.ensures.1 in
    rw (p.1, p.2) (simp (c.in_ok-object.ensures, c.in_ok-day.ensures, c.in_ok-passbook.ensures.exact) (Faults-then c.in_err-contract_rent.field-0.0 _ _ c.in_err-contract_rent.ensures.exact))

pub returns-in_err-utility-clause-exact : goal.returns-in_err-utility-clause-exact
unfolding household_at
returns-in_err-utility-clause-exact c =
    let p = err_from_is_err_and c.from_residual-in_err-utility.result c.from_residual-in_err-utility.ensures.1 in
    rw (p.1, p.2) (simp (c.in_ok-object.ensures, c.in_ok-day.ensures, c.in_ok-passbook.ensures.exact, c.in_ok-contract_rent.ensures.exact) (Faults-then c.in_err-utility.field-0.0 _ _ c.in_err-utility.ensures.exact))

pub returns-in_err-facts-clause-exact : goal.returns-in_err-facts-clause-exact
unfolding household_at
returns-in_err-facts-clause-exact c =
    let p = err_from_is_err_and c.from_residual-in_err-facts.result c.from_residual-in_err-facts.ensures.1 in
    rw (p.1, p.2) (simp (c.in_ok-object.ensures, c.in_ok-day.ensures, c.in_ok-passbook.ensures.exact, c.in_ok-contract_rent.ensures.exact, c.in_ok-utility.ensures.exact) (Faults-then c.in_err-facts.field-0.0 _ _ c.in_err-facts.ensures))

pub returns-clause-exact : goal.returns-clause-exact
unfolding household_at
returns-clause-exact c = simp (c.in_ok-object.ensures, c.in_ok-day.ensures, c.in_ok-passbook.ensures.exact, c.in_ok-contract_rent.ensures.exact, c.in_ok-utility.ensures.exact, c.in_ok-facts.ensures) c.closed.ensures.exact
