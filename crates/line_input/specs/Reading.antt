-- What a reader of lines has taken from its source, and what one more line takes.
--
-- The bytes that are left to it are those that it holds and then those of the source, where that tells them.
use Rattle.std.specs.Prelude.{◌≡◌, ℕ, ◌<◌, ◌≤◌, false, Option, IfSome, List, [], ◌∷◌, ◌++◌, length, ⊤}
use Rattle.std.specs.Io.KnownBytes.{Keeps, Consumes, IsAtEnd, prepend_known}
use Rattle.office_io.specs.Outside.{Faulted}
use Rattle.line_input.specs.{declared.reader.Next.Next, declared.more.More.More, Lines.has_end}

-- the line that it came to, and the bytes that it holds behind it
pub record Reading : Type 0 where
  pub line : List ℕ
  pub rest : List ℕ

-- so many bytes and more stand at the front before any line feed
pub record BeginsLong (most : ℕ) (bytes : List ℕ) : Type 0 where
  pub front : List ℕ
  pub rest : List ℕ
  pub whole : bytes ≡ front ++ rest
  pub endless : has_end front ≡ false
  pub long : most < length front

-- The next line and its end were at the front of what was left; or a last line without one; or nothing was left; or the
-- next line is too long, or a read failed, and all is left as it was.
abbrev pub Comes : ℕ → Option (List ℕ) → Option (List ℕ) → Reading → Next → Type 0
Comes most old new reading Next.Line =
    (has_end reading.line ≡ false) × (length reading.line ≤ most) × Consumes old new (reading.line ++ 10 ∷ [])
Comes most old new reading Next.Last =
    (has_end reading.line ≡ false) × (length reading.line ≤ most) × (0 < length reading.line) × Consumes old new reading.line × IsAtEnd new
Comes most old new reading Next.End = Keeps old new × IsAtEnd new
Comes most old new reading Next.TooLong = Keeps old new × IfSome new (BeginsLong most)
Comes most old new reading Next.Failed = Keeps old new × (has_end reading.rest ≡ false)
Comes most old new reading Next.NoMemory = ⊤

-- it fails only where the source counted a fault
abbrev pub NextCause : ℕ → ℕ → Next → Type 0
NextCause before now Next.Failed = Faulted before now
NextCause before now _ = now ≡ before

-- ---- one read

-- one read adds bytes to those that are held, or adds nothing
abbrev pub Grows : Option (List ℕ) → Option (List ℕ) → List ℕ → List ℕ → More → Type 0
Grows left left_now rest rest_now More.Bytes =
    (length rest < length rest_now) × Keeps (prepend_known rest left) (prepend_known rest_now left_now)
Grows left left_now rest rest_now More.End = (rest_now ≡ rest) × Keeps left left_now × IsAtEnd left_now
Grows left left_now rest rest_now More.Failed = (rest_now ≡ rest) × Keeps left left_now
Grows left left_now rest rest_now More.NoMemory = ⊤

abbrev pub MoreCause : ℕ → ℕ → More → Type 0
MoreCause before now More.Failed = Faulted before now
MoreCause before now _ = now ≡ before

-- the next line and its end are at the front of the bytes that are held, or the line is too long
abbrev pub TakesHeld : ℕ → Reading → Reading → Next → Type 0
TakesHeld most old new Next.Line =
    (has_end new.line ≡ false) × (length new.line ≤ most) × (old.rest ≡ new.line ++ 10 ∷ new.rest)
TakesHeld most old new Next.TooLong = (new ≡ old) × BeginsLong most old.rest
TakesHeld most old new _ = ⊥
