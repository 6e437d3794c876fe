-- Runs of days on which one record is in force.
use Rattle.std.specs.Prelude.{ℕ, ◌≤◌, List}
use Rattle.std.specs.Option.{option_map_or}
use Rattle.record_history.specs.{declared.records.Record.Record, declared.stretch.Stretch.Stretch, declared.runs.Run.Run, Records.in_force}

-- the number of the record in force, and 0 where none is
abbrev pub number_on : List Record → ℕ → ℕ
number_on records day = option_map_or (λ r. r.number) (in_force records day) 0

-- the days of the run, with the number as their key
abbrev pub stretch_of : Run → Stretch ℕ
stretch_of run = record { first = run.first; last = run.last; key = run.number }

-- the days of the stretch come no later than that day
pub record IsBy (day : ℕ) (s : Stretch ℕ) : Type 0 where
  pub first : s.first ≤ day
  pub last : s.last ≤ day
