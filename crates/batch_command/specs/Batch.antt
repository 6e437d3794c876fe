-- Which lines a batch answers, what of the answers is written, and how it ends.
use Rattle.std.specs.Prelude.{◌≡◌, ◌≤◌, ◌<◌, ◌⊎◌, ℕ, Option, Some, IfSome, List, ◌∷◌, ◌++◌, All, Contains, map, length}
use Rattle.std.specs.Io.KnownBytes.{Consumes, IsAtEnd}
use Rattle.line_input.specs.{declared.reader.Next.Next, Lines.lines_of, Lines.ended_lines}
use Rattle.book_rows.specs.Book.{Book}
use Rattle.clerk_desk.specs.Below.office_step.declared.call.Capacity.{Capacity}
use Rattle.batch_command.specs.{Line.IsMadeBy, Output.Given, Output.told_of, Output.batch_output, Answers.Writes, declared.ending.Ending.Ending}

-- the most bytes of a line, without its end
abbrev pub line_limit : ℕ
line_limit = 16384

-- the most lines, whether or not they are passed over
abbrev pub most_lines : ℕ
most_lines = 200000

-- how a batch ends where no line is answered any more
abbrev pub ending_of : Next → Ending
ending_of Next.End = Ending.Done
ending_of Next.Line = Ending.TooLong
ending_of Next.Last = Ending.TooLong
ending_of Next.TooLong = Ending.TooLong
ending_of Next.Failed = Ending.ReadFault
ending_of Next.NoMemory = Ending.NoMemory

-- the lines that were taken from the input
abbrev pub lines_in : List Given → List (List ℕ)
lines_in given = map (λ g. g.line) given

-- The lines are those of the input: all of them, and the source is at its end; or those before the first that is too long or
-- one too many; or those whose end was read before the source failed; or a front of them.
abbrev pub Follows : List ℕ → Option (List ℕ) → List (List ℕ) → Ending → Type 0
Follows input left lines Ending.Done = (lines ≡ lines_of input) × IsAtEnd left
Follows input left lines Ending.TooLong =
    (line : List ℕ) × (rest : List (List ℕ)) × (lines_of input ≡ lines ++ line ∷ rest) × ((length lines ≡ most_lines) ⊎ (line_limit < length line))
Follows input left lines Ending.ReadFault = (read : List ℕ) × Consumes (Some input) left read × (lines ≡ ended_lines read)
Follows input left lines _ = (rest : List (List ℕ)) × (lines_of input ≡ lines ++ rest)

-- These lines were answered, each on a day that the clock may show: the book is the one after them, and what was written is
-- their answers. `left` is what the source had left before and now, `held` what the sink held.
pub record LinesRan (capacity : Capacity) (shows : ℕ → Type 0) (old new : Book) (left left_now held held_now : Option (List ℕ)) (end : Ending) : Type 0 where
  pub given : List Given
  pub shown : All (λ g. shows g.day) given
  pub short : All (λ g. length g.line ≤ line_limit) given
  pub few : length given ≤ most_lines
  pub follows : IfSome left (λ input. Follows input left_now (lines_in given) end)
  pub book : new ≡ (batch_output capacity old given).book
  pub writes : Writes (told_of capacity) old given held held_now end

-- a crash leaves the book that the office has, or the one that it would have made of it by a line of the input
abbrev pub LeavesByLine : Capacity → (ℕ → Type 0) → Option (List ℕ) → Book → Option Book → Type 0
LeavesByLine capacity shows left held after =
    (after ≡ Some held)
    ⊎ ((line : List ℕ) × IfSome left (λ input. Contains (lines_of input) line)
    × IsMadeBy shows capacity held (λ day. told_of capacity held (record { line = line; day = day })) after)
