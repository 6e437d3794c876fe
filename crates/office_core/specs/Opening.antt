-- Why a book isn't opened.
use Rattle.std.specs.Prelude.{◌≡◌, ⊤, Option, Some}
use Rattle.office_answers.specs.Below.office_step.declared.fault.Fault.{Fault}
use Rattle.office_core.specs.declared.opening.OpenFault.{OpenFault}

-- a bad book is named by that fault; want of memory says nothing
abbrev pub IsNamed : Option Fault → OpenFault → Type 0
IsNamed found (OpenFault.BadBook fault) = found ≡ Some fault
IsNamed found OpenFault.NoMemory = ⊤
