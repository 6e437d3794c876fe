use Rattle.std.proofs.lemmas.Result.{err_from_is_err_and}
use Rattle.json_form.proofs.Faults.{Faults-then}
use Rattle.command_forms.specs.Property.{plan_at}
use Rattle.command_text.proofs.property.plan_of.Goals as goal

pub returns-in_err-report_days-clause-exact : goal.returns-in_err-report_days-clause-exact
unfolding plan_at
returns-in_err-report_days-clause-exact c =
    let p = err_from_is_err_and c.from_residual-in_err-report_days.result c.from_residual-in_err-report_days.ensures.1 in
    rw (p.1, p.2) (simp (c.in_ok-first.ensures.exact, c.in_ok-early.ensures, c.in_ok-method.ensures.exact, c.in_ok-fiscal_month.ensures.exact) (Faults-then c.in_err-report_days.field-0.0 _ _ c.in_err-report_days.ensures.exact))

pub returns-clause-exact : goal.returns-clause-exact
unfolding plan_at
returns-clause-exact c = simp (c.in_ok-first.ensures.exact, c.in_ok-early.ensures, c.in_ok-method.ensures.exact, c.in_ok-fiscal_month.ensures.exact, c.in_ok-report_days.ensures.exact, c.in_ok-passbook.ensures.exact, c.in_ok-expected.ensures.exact, c.in_ok-bounds.ensures.exact, c.in_ok-ranks.ensures.exact)
