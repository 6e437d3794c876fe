-- Bytes whose first lines are known.
use Rattle.std.proofs.Common.{◌≡◌, ◌≤◌, ℕ, false, List, [], ◌∷◌, ◌++◌, length, refl, append_assoc, arith, ◌==◌}
use Rattle.std.specs.Prelude.{All}
use Rattle.std.proofs.lemmas.{Bool.or_parts, List.Elements.All-head, List.Elements.All-tail}
use Rattle.line_input.specs.Lines.{has_end, IsEndless, lines_of, ended_lines, into_first, joined}

-- a line and its end stand before the other lines
pub lines_of-line : (line rest : List ℕ) → has_end line ≡ false → lines_of (line ++ 10 ∷ rest) ≡ line ∷ lines_of rest
lines_of-line [] rest endless = refl
lines_of-line (b ∷ line) rest endless =
    let both = or_parts (b == 10) (has_end line) endless in
    rw (both.0, lines_of-line line rest both.1) refl

pub ended_lines-line : (line rest : List ℕ) → has_end line ≡ false → ended_lines (line ++ 10 ∷ rest) ≡ line ∷ ended_lines rest
ended_lines-line [] rest endless = refl
ended_lines-line (b ∷ line) rest endless =
    let both = or_parts (b == 10) (has_end line) endless in
    rw (both.0, ended_lines-line line rest both.1) refl

-- the last line lacks its end
pub lines_of-last : (b : ℕ) (line : List ℕ) → has_end (b ∷ line) ≡ false → lines_of (b ∷ line) ≡ (b ∷ line) ∷ []
lines_of-last b [] endless = rw (or_parts (b == 10) false endless).0 refl
lines_of-last b (c ∷ line) endless =
    let both = or_parts (b == 10) (has_end (c ∷ line)) endless in rw (both.0, lines_of-last c line both.1) refl

-- no line has its end there
pub ended_lines-none : (rest : List ℕ) → has_end rest ≡ false → ended_lines rest ≡ []
ended_lines-none [] endless = refl
ended_lines-none (b ∷ rest) endless =
    let both = or_parts (b == 10) (has_end rest) endless in
    rw (both.0, ended_lines-none rest both.1) refl

-- the lines of the front, and then those of the rest
pub lines_of-joined : (lines : List (List ℕ)) (rest : List ℕ) → All IsEndless lines
    → lines_of (joined lines ++ rest) ≡ lines ++ lines_of rest
lines_of-joined [] rest endless = refl
lines_of-joined (line ∷ lines) rest endless =
    let line_first = lines_of-line line (joined lines ++ rest) (All-head IsEndless line lines endless) in
    simp append_assoc (rw (line_first, lines_of-joined lines rest (All-tail IsEndless line lines endless)) refl)

pub ended_lines-joined : (lines : List (List ℕ)) (rest : List ℕ) → All IsEndless lines
    → ended_lines (joined lines ++ rest) ≡ lines ++ ended_lines rest
ended_lines-joined [] rest endless = refl
ended_lines-joined (line ∷ lines) rest endless =
    let line_first = ended_lines-line line (joined lines ++ rest) (All-head IsEndless line lines endless) in
    simp append_assoc (rw (line_first, ended_lines-joined lines rest (All-tail IsEndless line lines endless)) refl)

-- the first line of the bytes is at least as long as a front of them without an end
pub record FirstIsLong (bytes : List ℕ) (count : ℕ) : Type 0 where
  pub line : List ℕ
  pub others : List (List ℕ)
  pub lines : lines_of bytes ≡ line ∷ others
  pub long : count ≤ length line

pub first_is_long : (b : ℕ) (front rest : List ℕ) → has_end (b ∷ front) ≡ false → FirstIsLong ((b ∷ front) ++ rest) (length (b ∷ front))
first_is_long b [] rest endless =
    let both = or_parts (b == 10) false endless in
    let first = first_of (lines_of rest) in
    record { line = b ∷ first.0; others = first.1; lines = rw (both.0) first.2; long = omega arith }
  where
    first_of : (lines : List (List ℕ)) → (line : List ℕ) × (others : List (List ℕ)) × (into_first b lines ≡ (b ∷ line) ∷ others)
    first_of [] = ([], [], refl)
    first_of (line ∷ lines) = (line, lines, refl)
first_is_long b (c ∷ front) rest endless =
    let both = or_parts (b == 10) (has_end (c ∷ front)) endless in
    let first = first_is_long c front rest both.1 in
    record { line = b ∷ first.line; others = first.others; lines = simp (both.0, first.lines); long = omega arith }
