-- What the steps towards a message read.
use Rattle.std.specs.Prelude.{◌≡◌, ℕ, ◌+◌, ◌<◌, ◌≤◌, List, ◌++◌, length}
use Rattle.std.specs.{declared.option.Option.Option, Io.KnownBytes.Consumes, Io.KnownBytes.IsAtEnd, Io.KnownBytes.Keeps}
use Rattle.office_io.specs.Outside.{Faulted}
use Rattle.http_heads.specs.{Heads.IsHopeless, Heads.IsOpen, Looks.IsFoundIn, declared.look.FoundHead.FoundHead}
use Rattle.http_messages.specs.{Incoming.Grows, Messages.IsUnfinished, declared.buffer.More.More, declared.next.HeadCame.HeadCame}

-- one read added some bytes, at most 4,096, or nothing
abbrev pub Receives : List ℕ → List ℕ → Option (List ℕ) → Option (List ℕ) → More → Type 0
Receives held held_now left left_now More.Bytes =
    (piece : List ℕ) × (held_now ≡ held ++ piece) × (0 < length piece) × (length piece ≤ 4096) × Consumes left left_now piece
Receives held held_now left left_now More.End = (held_now ≡ held) × Keeps left left_now × IsAtEnd left_now
Receives held held_now left left_now More.Failed = (held_now ≡ held) × Keeps left left_now

abbrev pub MoreCause : ℕ → ℕ → More → Type 0
MoreCause before now More.Failed = Faulted before now
MoreCause before now _ = now ≡ before

-- the bytes may become a head yet
abbrev pub IsPartHead : List ℕ → Type 0
IsPartHead bytes = IsOpen bytes × (length bytes < 16384)

-- what was read until a head is there, or none will be
abbrev pub HeadComes : List ℕ → List ℕ → Option (List ℕ) → Option (List ℕ) → HeadCame → Type 0
HeadComes held held_now left left_now (HeadCame.Head found) = Grows held held_now left left_now × IsFoundIn held_now found
HeadComes held held_now left left_now HeadCame.Hopeless = Grows held held_now left left_now × IsHopeless held_now
HeadComes held held_now left left_now HeadCame.TooLong = Grows held held_now left left_now × IsOpen held_now × (16384 ≤ length held_now)
HeadComes held held_now left left_now HeadCame.End = Grows held held_now left left_now × IsAtEnd left_now × IsPartHead held_now
HeadComes held held_now left left_now HeadCame.Failed = Grows held held_now left left_now × IsPartHead held_now

abbrev pub HeadCause : ℕ → ℕ → HeadCame → Type 0
HeadCause before now HeadCame.Failed = Faulted before now
HeadCause before now _ = now ≡ before

-- what was read until the body behind that head is whole
abbrev pub BodyComes : FoundHead → ℕ → List ℕ → List ℕ → Option (List ℕ) → Option (List ℕ) → More → Type 0
BodyComes found count held held_now left left_now More.Bytes =
    Grows held held_now left left_now × IsFoundIn held_now found × (found.end + count ≤ length held_now)
BodyComes found count held held_now left left_now More.End = Grows held held_now left left_now × IsAtEnd left_now × IsUnfinished held_now
BodyComes found count held held_now left left_now More.Failed = Grows held held_now left left_now × IsUnfinished held_now
