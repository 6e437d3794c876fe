-- Lines of bytes. A line ends with a line feed, which is byte 10; the last may lack its end.
use Rattle.std.specs.Prelude.{◌≡◌, ℕ, ◌+◌, ◌<◌, ◌==◌, if◌then◌else◌, Bool, false, List, [], ◌∷◌, ◌++◌, length, take, drop}
use Rattle.std.specs.List.{list_any, flat_map}

-- a line feed is among the bytes
abbrev pub has_end : List ℕ → Bool
has_end bytes = list_any (λ b. b == 10) bytes

-- the bytes are within one line
abbrev pub IsEndless : List ℕ → Type 0
IsEndless bytes = has_end bytes ≡ false

-- the byte goes to the front of the first line, which is a new one where there is none
abbrev pub into_first : ℕ → List (List ℕ) → List (List ℕ)
into_first b [] = (b ∷ []) ∷ []
into_first b (line ∷ lines) = (b ∷ line) ∷ lines

-- the lines, each without its end
abbrev pub lines_of : List ℕ → List (List ℕ)
lines_of [] = []
lines_of (b ∷ bytes) = if b == 10 then [] ∷ lines_of bytes else into_first b (lines_of bytes)

-- the byte goes to the front of the first line, if there is one
abbrev pub onto_first : ℕ → List (List ℕ) → List (List ℕ)
onto_first b [] = []
onto_first b (line ∷ lines) = (b ∷ line) ∷ lines

-- the lines whose end is there
abbrev pub ended_lines : List ℕ → List (List ℕ)
ended_lines [] = []
ended_lines (b ∷ bytes) = if b == 10 then [] ∷ ended_lines bytes else onto_first b (ended_lines bytes)

-- the first line feed stands at that place
pub record EndsAt (bytes : List ℕ) (count : ℕ) : Type 0 where
  pub endless : has_end (take count bytes) ≡ false
  pub within : count < length bytes
  pub end : drop count bytes ≡ 10 ∷ drop (count + 1) bytes

-- the lines, each with its end
abbrev pub joined : List (List ℕ) → List ℕ
joined lines = flat_map (λ line. line ++ 10 ∷ []) lines
