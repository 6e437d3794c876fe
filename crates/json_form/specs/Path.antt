-- Where a place lies in a value: names joined by dots, and positions from 0 in brackets, as in members[0].born.
--
-- A path is seen as its bytes. That of the value itself is empty.
use Rattle.std.specs.Prelude.{ℕ, ◌==◌, if◌then◌else◌, List, [], ◌∷◌, ◌++◌, codes, decimal}

-- the step to an item of an array
abbrev pub position : ℕ → List ℕ
position index = codes "[" ++ decimal index ++ codes "]"

-- A step, which is a name or a position, and the path from there. Only a name wants a dot before it.
abbrev pub joined : List ℕ → List ℕ → List ℕ
joined step [] = step
joined step (byte ∷ path) = if byte == 91 then step ++ byte ∷ path else step ++ 46 ∷ byte ∷ path
