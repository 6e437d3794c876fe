-- A listener in memory, as its users see it: its links, and a plan of which accepts fail.
use Rattle.std.specs.Prelude.{◌≡◌, ℕ, ◌+◌, ◌^◌, ◌-◌, ◌==◌, ◌&&◌, nat_lt, Bool, if◌then◌else◌, List, [], ◌∷◌, ◌++◌, length, map, drop}
use Rattle.std.specs.{List.list_any, Option.unwrap_or}
use Rattle.office_io.specs.{Outside.counted, Memory.Given, Memory.Taken}
use Rattle.office_links.specs.{Links.Links, Links.Standing, Links.unused, declared.link.Link.Link, declared.listener.Accepted.Accepted}

-- the links that are left and those given back, how many both are at most, which accepts fail, numbered from 0, and the counts
-- so far
pub record Hearing (In Out : Type 0) : Type 0 where
  pub left : List (Link In Out)
  pub given_back : List (Link In Out)
  pub room : ℕ
  pub failing : List ℕ
  pub calls : ℕ
  pub faults : ℕ

-- the bytes that a link tells
abbrev pub bytes_of : Standing → List ℕ
bytes_of link = unwrap_or link.left []

-- it tells its bytes, and nobody has used it yet
abbrev pub IsUnused : Standing → Type 0
IsUnused link = link ≡ unused (bytes_of link)

module _ {In Out : Type 0} where
  -- the next accept is one of those that fail; where no link is left none fails
  abbrev pub is_failing : Hearing In Out → Bool
  is_failing listener = nat_lt 0 (length listener.left) && list_any (λ call. call == listener.calls) listener.failing

  -- the first of these links, or the end
  abbrev pub first_of : List (Link In Out) → Accepted In Out
  first_of [] = Accepted.End
  first_of (link ∷ links) = Accepted.Link link.source link.sink

  -- what an accept answers
  abbrev pub accept_answer : Hearing In Out → Accepted In Out
  accept_answer listener = if is_failing listener then Accepted.Failed else first_of listener.left

  -- and the listener after it
  abbrev pub after_accept : Hearing In Out → Hearing In Out
  after_accept listener =
      if is_failing listener then record listener { calls = counted listener.calls; faults = counted listener.faults }
      else record listener { left = drop 1 listener.left; calls = counted listener.calls }

  -- the listener after a link was given back
  abbrev pub after_done : Hearing In Out → Link In Out → Hearing In Out
  after_done listener link =
      if nat_lt (length listener.left + length listener.given_back) listener.room
      then record listener { given_back = listener.given_back ++ link ∷ [] }
      else listener

  -- what it tells, by how each of its links stands
  abbrev pub told_by : (In → Out → Standing) → Hearing In Out → Links
  told_by standing listener = record {
    left = map (λ link. bytes_of (standing link.source link.sink)) listener.left;
    given_back = map (λ link. standing link.source link.sink) listener.given_back;
    room = listener.room;
  }

-- a link in memory of these bytes, whose sink has so much room, and none of whose calls fail
abbrev pub link_of : ℕ → List ℕ → Link Given Taken
link_of room bytes = record {
  source = record { left = bytes; plan = record { failing = []; most = 2 ^ 64 - 1; calls = 0; faults = 0 } };
  sink = record { held = []; room = room; plan = record { failing = []; most = 2 ^ 64 - 1; calls = 0; faults = 0 } };
}
