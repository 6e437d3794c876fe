-- Room for the rows of a step.
use Rattle.std.proofs.Common.{◌≡◌, ◌≤◌, ◌+◌, ℕ, length, Option, Some, None, List, arith}
use Rattle.std.specs.{Prelude.IfSome, Option.option_map_or}
use Rattle.record_history.specs.{declared.records.Record.Record, Held.room_of}
use Rattle.book_rows.specs.Book.{Book}
use Rattle.office_answers.specs.Below.office_step.{declared.call.Capacity.Capacity, Known.Known, Known.known_of}
use Rattle.book_replay.specs.Below.office_laws.{Accepted.AppendedIsAccepted, AtHand.NextRecords}
use Rattle.office_core.specs.Planned.{Planned, IsPlannedFor}

-- the record is of a household that is there, or of the next
abbrev pub IsPlaced : Known → Option Record → Type 0
IsPlaced known made = IfSome made (λ r. (1 ≤ r.household) × (r.household ≤ length known.households + 1))

pub placed : (capacity : Capacity) (book : Book) (step : Planned) → IsPlannedFor capacity book step → AppendedIsAccepted → NextRecords →
    IsPlaced (known_of book) step.rows.made
placed capacity book step planned law next =
    let accepted = law capacity book step.rows planned.appends in
    rw accepted.made (next (known_of book) capacity.acts step.rows.act.day planned.appends.call.command accepted.is_allowed)

pub household_next : (known : Known) (made : Option Record) → IsPlaced known made → option_map_or (λ r. r.household) made 0 ≤ length known.households + 1
household_next known None is = omega arith
household_next known (Some r) is = is.1

pub room_there : (known : Known) (made : Option Record) (household : ℕ) (rooms : List ℕ) → IsPlaced known made → household ≡ option_map_or (λ r. r.household) made 0 →
    (1 ≤ household → 1 ≤ room_of rooms household) → IfSome made (λ r. 1 ≤ room_of rooms r.household)
room_there known None household rooms is same room = record {}
room_there known (Some r) household rooms is same room = rw (← same) (room (rw same is.0))
