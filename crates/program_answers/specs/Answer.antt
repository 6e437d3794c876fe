-- What the program answers, and how it ends.
use Rattle.std.specs.Prelude.{◌≡◌, ◌⊎◌, ℕ, List}
use Rattle.std.specs.{declared.option.Option.Option, Io.KnownBytes.Appends}
use Rattle.office_io.specs.declared.status.ExitStatus.{ExitStatus}
use Rattle.office_io.specs.{Outside.Faulted, Transfer.AppendsPart}

-- what is written, and the status of the program when all of it is
pub record Answer : Type 0 where
  pub status : ExitStatus
  pub text : List ℕ

-- The status comes after its text was written whole. It is that of a write fault if the sink counted a fault: then a front of the
-- text was written, and not all of it.
abbrev pub Ends : Answer → Option (List ℕ) → Option (List ℕ) → ℕ → ℕ → ExitStatus → Type 0
Ends answer held held_now faults faults_now status =
    ((status ≡ answer.status) × Appends held held_now answer.text × (faults_now ≡ faults))
    ⊎ ((status ≡ ExitStatus.WriteFault) × AppendsPart held held_now answer.text × Faulted faults faults_now)
