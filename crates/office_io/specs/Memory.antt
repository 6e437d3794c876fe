-- Sources and sinks in memory, as their users see them: the bytes, and a plan of which calls fail.
use Rattle.std.specs.Prelude.{ℕ, ◌-◌, ◌||◌, ◌==◌, min, List, ◌++◌, length, take, drop, Bool, if◌then◌else◌}
use Rattle.std.specs.List.{list_any}
use Rattle.office_io.specs.{Outside.counted, declared.source.Got.Got, declared.sink.Put.Put}

-- which calls fail, numbered from 0, the most bytes that one call moves, and the counts so far
pub record Planned : Type 0 where
  pub failing : List ℕ
  pub most : ℕ
  pub calls : ℕ
  pub faults : ℕ

-- the next call is one of those that fail
abbrev pub is_failing : Planned → Bool
is_failing plan = list_any (λ call. call == plan.calls) plan.failing

-- after a call with no fault
abbrev pub called : Planned → Planned
called plan = record plan { calls = counted plan.calls }

-- after a call with a fault
abbrev pub faulted : Planned → Planned
faulted plan = record plan { calls = counted plan.calls; faults = counted plan.faults }

-- a source: the bytes that are left
pub record Given : Type 0 where
  pub left : List ℕ
  pub plan : Planned

-- how many bytes a call gives into that much room, if it does not fail
abbrev pub given_into : Given → ℕ → ℕ
given_into source room = min (min (length source.left) room) source.plan.most

-- what a read into that much room answers
abbrev pub read_answer : Given → ℕ → Got
read_answer source room =
    if is_failing source.plan then Got.Failed
    else if given_into source room == 0 then Got.End
    else Got.Bytes (given_into source room)

-- and the source after it
abbrev pub after_read : Given → ℕ → Given
after_read source room =
    if is_failing source.plan then record source { plan = faulted source.plan }
    else record source { left = drop (given_into source room) source.left; plan = called source.plan }

-- a sink: the bytes that it holds, and how many it has room for
pub record Taken : Type 0 where
  pub held : List ℕ
  pub room : ℕ
  pub plan : Planned

-- how many bytes of a piece a call takes, if it does not fail
abbrev pub taken_of : Taken → List ℕ → ℕ
taken_of sink piece = min (min (length piece) (sink.room - length sink.held)) sink.plan.most

-- a write fails by the plan, and where the sink is full
abbrev pub is_refused : Taken → List ℕ → Bool
is_refused sink piece = is_failing sink.plan || taken_of sink piece == 0

-- what a write of the piece answers
abbrev pub write_answer : Taken → List ℕ → Put
write_answer sink piece = if is_refused sink piece then Put.Failed else Put.Bytes (taken_of sink piece)

-- and the sink after it
abbrev pub after_write : Taken → List ℕ → Taken
after_write sink piece =
    if is_refused sink piece then record sink { plan = faulted sink.plan }
    else record sink { held = sink.held ++ take (taken_of sink piece) piece; plan = called sink.plan }
