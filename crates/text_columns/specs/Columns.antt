-- Lines of columns.
use Rattle.std.specs.Prelude.{ℕ, ◌-◌, List, [], ◌∷◌, ◌++◌, length, replicate}
use Rattle.std.specs.List.{join_with_byte}

-- with as many spaces behind, or in front, as the width asks
abbrev pub left : ℕ → List ℕ → List ℕ
left width part = part ++ replicate (width - length part) 32

abbrev pub right : ℕ → List ℕ → List ℕ
right width part = replicate (width - length part) 32 ++ part

abbrev pub line : List ℕ → List ℕ
line text = text ++ 10 ∷ []

abbrev pub labelled : List ℕ → List ℕ → List ℕ
labelled label value = line (label ++ value)

-- the columns with one space between each two
abbrev pub row : List (List ℕ) → List ℕ
row columns = line (join_with_byte 32 columns)
