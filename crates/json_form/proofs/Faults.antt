-- Faults of a part, as faults of the whole.
use Rattle.std.proofs.Common.{ℕ, List, Result, Err, ap, sym, ◌∙◌}
use Rattle.json_form.specs.Form.{◌>>=◌, under}
use Rattle.json_form.specs.{Gives.Faults, Gives.IsUnder, declared.fault.FormFault.FormFault, declared.fault.FormFault.TheVariants.BadField, declared.fault.FormFault.TheVariants.NoMemory}

pub Faults-under : {A : Type 0} (step : List ℕ) (inner outer : FormFault) (form : Result A (List ℕ)) → IsUnder step inner outer → Faults inner form → Faults outer (under step form)
Faults-under step (BadField path) (BadField longer) form is faults = ap (under step) faults ∙ ap (λ whole. Err whole) (sym is)
Faults-under step (BadField path) NoMemory form is faults = tt
Faults-under step NoMemory outer form is faults = rw is tt

-- a fault of the first reading is one of both
pub Faults-then : {A B : Type 0} (fault : FormFault) (form : Result A (List ℕ)) (next : A → Result B (List ℕ)) → Faults fault form → Faults fault (form >>= next)
Faults-then (BadField path) form next faults = ap (λ read. read >>= next) faults
Faults-then NoMemory form next faults = tt
