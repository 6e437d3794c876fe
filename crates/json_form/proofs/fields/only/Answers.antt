use Rattle.std.proofs.Common.{[], codes, Err, refl}
use Rattle.json_form.specs.Form.{only}
use Rattle.json_form.proofs.{Faults.Faults-under, Names.has_other-keys}
use Rattle.json_form.proofs.fields.only.Goals as goal

pub returns-in-Some : goal.returns-in-Some
unfolding only
returns-in-Some c = rw (← c.in-Some.ensures, has_other-keys c.args.names.now c.in-Some.members.now, ← c.has_other.ensures, c.if-not-has_other.true) refl

pub returns-in-Some-2 : goal.returns-in-Some-2
unfolding only
returns-in-Some-2 c =
    rw (← c.in-Some.ensures, has_other-keys c.args.names.now c.in-Some.members.now, ← c.has_other.ensures, c.if-not-has_other.false)
    (Faults-under {A = Unit {0}} (codes "?") c.here.result c.under.result (Err []) c.under.ensures (rw c.here.ensures refl))
