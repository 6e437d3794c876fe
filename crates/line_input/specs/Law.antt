-- What it comes to that some lists are the lines of some bytes.
use Rattle.std.specs.Prelude.{◌≡◌, false, ℕ, List, [], ◌∷◌, ◌++◌, All}
use Rattle.line_input.specs.Lines.{has_end, IsEndless, lines_of, ended_lines, joined}

-- the last line, where it lacks its end
abbrev pub last_line : List ℕ → List (List ℕ)
last_line [] = []
last_line (b ∷ bytes) = (b ∷ bytes) ∷ []

-- The lines with an end, each with its own, and the bytes behind them are the bytes; behind them is no line feed, nor within
-- a line; and where bytes are behind them, these are one more line, the last.
pub record AreLinesOf (bytes : List ℕ) : Type 0 where
  pub rest : List ℕ
  pub whole : joined (ended_lines bytes) ++ rest ≡ bytes
  pub endless : All IsEndless (ended_lines bytes)
  pub last : has_end rest ≡ false
  pub lines : lines_of bytes ≡ ended_lines bytes ++ last_line rest

abbrev pub LinesAreTheBytes : Type 0
LinesAreTheBytes = (bytes : List ℕ) → AreLinesOf bytes
