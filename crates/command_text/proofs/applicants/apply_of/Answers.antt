use Rattle.std.proofs.lemmas.Result.{err_from_is_err_and}
use Rattle.json_form.proofs.Faults.{Faults-then}
use Rattle.command_forms.specs.Applicants.{apply_at}
use Rattle.command_text.proofs.applicants.apply_of.Goals as goal

pub returns-in_err-preferences-clause-exact : goal.returns-in_err-preferences-clause-exact
unfolding apply_at
returns-in_err-preferences-clause-exact c =
    let p = err_from_is_err_and c.from_residual-in_err-preferences.result c.from_residual-in_err-preferences.ensures.1 in
    rw (p.1, p.2) (simp (c.in_ok-name.ensures.exact, c.in_ok-size.ensures.exact, c.in_ok-persons.ensures.exact) (Faults-then c.in_err-preferences.field-0.0 _ _ c.in_err-preferences.ensures.exact))

pub returns-clause-exact : goal.returns-clause-exact
unfolding apply_at
returns-clause-exact c = simp (c.in_ok-name.ensures.exact, c.in_ok-size.ensures.exact, c.in_ok-persons.ensures.exact, c.in_ok-preferences.ensures.exact, c.in_ok-accessible.ensures, c.in_ok-annual.ensures.exact)
