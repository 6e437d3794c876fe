-- What is moved out of a source and into a sink by many reads and writes.
use Rattle.std.specs.Prelude.{◌≡◌, ℕ, ◌+◌, ◌<◌, ◌≤◌, List, length, take, ⊤}
use Rattle.std.specs.{declared.option.Option.Option, Io.KnownBytes.Appends, Io.KnownBytes.Consumes, Io.KnownBytes.IsAtEnd}
use Rattle.office_io.specs.{Outside.Faulted, declared.transfer.Input.Input}

-- These bytes were taken from a source: all to its end where they are at most so many, and else one byte more.
pub record Takes (most : ℕ) (old new : Option (List ℕ)) (bytes : List ℕ) : Type 0 where
  pub consumed : Consumes old new bytes
  pub bounded : length bytes ≤ most + 1
  pub ended : length bytes ≤ most → IsAtEnd new

-- so many bytes were read into the front of a buffer: all to the end of the source, where they do not fill it
pub record Fills (old new : Option (List ℕ)) (buffer : List ℕ) (count : ℕ) : Type 0 where
  pub within : count ≤ length buffer
  pub consumed : Consumes old new (take count buffer)
  pub ended : count < length buffer → IsAtEnd new

-- a front of these bytes was appended to a sink, and not all of them
abbrev pub AppendsPart : Option (List ℕ) → Option (List ℕ) → List ℕ → Type 0
AppendsPart old new bytes = (n : ℕ) × (n < length bytes) × Appends old new (take n bytes)

-- what was taken at each answer: at a fault the bytes before it, and for want of memory nothing
abbrev pub InputTakes : ℕ → Option (List ℕ) → Option (List ℕ) → Input → Type 0
InputTakes most old new (Input.Whole bytes) = (length bytes.items ≤ most) × Takes most old new bytes.items
InputTakes most old new Input.TooLong = (bytes : List ℕ) × (most < length bytes) × Takes most old new bytes
InputTakes most old new Input.Failed = (bytes : List ℕ) × (length bytes ≤ most) × Consumes old new bytes
InputTakes most old new Input.NoMemory = new ≡ old

-- the answer for a source that told these bytes at the start
abbrev pub InputTold : ℕ → List ℕ → Input → Type 0
InputTold most told (Input.Whole bytes) = (length told ≤ most) × (bytes.items ≡ told)
InputTold most told Input.TooLong = most < length told
InputTold most told _ = ⊤

-- the input fails only where the source counted a fault
abbrev pub InputCause : ℕ → ℕ → Input → Type 0
InputCause before now Input.Failed = Faulted before now
InputCause before now _ = now ≡ before
