-- What one read does to a source and one write to a sink, where these tell their bytes, and what their counts of
-- faults do.
use Rattle.std.specs.Prelude.{◌≡◌, ℕ, ◌+◌, ◌-◌, ◌^◌, ◌<◌, ◌≤◌, min, List, length, take}
use Rattle.std.specs.declared.option.Option.{Option}
use Rattle.std.specs.Io.KnownBytes.{Keeps, Appends, Consumes, IsAtEnd}
use Rattle.office_io.specs.declared.{source.Got.Got, sink.Put.Put}

-- one more, in a 64-bit count that stops at its last value
abbrev pub counted : ℕ → ℕ
counted count = min (count + 1) (2 ^ 64 - 1)

-- the count rose, or stands at its last value
abbrev pub Rose : ℕ → ℕ → Type 0
Rose before now = counted before ≤ now

-- a fault was counted, and the count never falls
abbrev pub Faulted : ℕ → ℕ → Type 0
Faulted before now = (before ≤ now) × Rose before now

-- A read gave the next bytes of the source, at least one and at most those that fit, or came to its end, or failed
-- and took nothing.
abbrev pub Reads : Option (List ℕ) → Option (List ℕ) → List ℕ → Got → Type 0
Reads old new buffer (Got.Bytes n) = (0 < n) × (n ≤ length buffer) × Consumes old new (take n buffer)
Reads old new buffer Got.End = IsAtEnd new × Keeps old new
Reads old new buffer Got.Failed = Keeps old new

-- a read answers Failed only where it counted a fault
abbrev pub ReadCause : ℕ → ℕ → Got → Type 0
ReadCause before now (Got.Bytes n) = now ≡ before
ReadCause before now Got.End = now ≡ before
ReadCause before now Got.Failed = Faulted before now

-- a write appended a front of the piece, of at least one byte, or failed and appended nothing
abbrev pub Writes : Option (List ℕ) → Option (List ℕ) → List ℕ → Put → Type 0
Writes old new piece (Put.Bytes n) = (0 < n) × (n ≤ length piece) × Appends old new (take n piece)
Writes old new piece Put.Failed = Keeps old new

-- a write answers Failed only where it counted a fault
abbrev pub WriteCause : ℕ → ℕ → Put → Type 0
WriteCause before now (Put.Bytes n) = now ≡ before
WriteCause before now Put.Failed = Faulted before now

-- a reader or writer of std, and the faults so far
pub record Counted (Stream : Type 0) : Type 0 where
  pub stream : Stream
  pub faults : ℕ
