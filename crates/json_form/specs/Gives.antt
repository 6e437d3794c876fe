-- What a reader's answer says of a form.
use Rattle.std.specs.Prelude.{◌≡◌, ℕ, List, Result, Ok, Err}
use Rattle.json_form.specs.{declared.fault.FormFault.FormFault, Path.joined}

-- a path is that of the first place that doesn't fit; memory may run out at any value
abbrev pub Faults : {A : Type 0} → FormFault → Result A (List ℕ) → Type 0
Faults (FormFault.BadField path) form = form ≡ Err path
Faults FormFault.NoMemory form = Unit {0}

-- the answer, whose value is seen by a function, is what the form gives, unless memory ran out
abbrev pub Gives : {X A : Type 0} → (X → A) → Result X FormFault → Result A (List ℕ) → Type 0
Gives seen (Ok x) form = form ≡ Ok (seen x)
Gives seen (Err fault) form = Faults fault form

-- the fault, seen from before the step, unless memory ran out
abbrev pub IsUnder : List ℕ → FormFault → FormFault → Type 0
IsUnder step (FormFault.BadField path) (FormFault.BadField longer) = longer ≡ joined step path
IsUnder step (FormFault.BadField path) FormFault.NoMemory = Unit {0}
IsUnder step FormFault.NoMemory fault = fault ≡ FormFault.NoMemory
