-- Rows that are found in a list.
use Rattle.std.proofs.Common.{◌≡◌, ◌≤◌, ◌+◌, ◌-◌, ℕ, zero, suc, List, [], ◌∷◌, length, Option, Some, ap, arith, slice_get}
use Rattle.std.specs.Prelude.{Bool, Contains, find, filter}
use Rattle.std.specs.Option.{option_map_or}
use Rattle.std.proofs.lemmas.List.{Elements.Contains-get_or, Sums.length-filter, Sums.count_by-le-length}
use Rattle.book_rows.specs.declared.rows.ActRow.{ActRow}
use Rattle.office_answers.specs.Below.office_step.Step.{last_act_day}
use Rattle.book_replay.proofs.Below.office_laws.Tried.{find_holds}

-- what is found is there
pub found_there : {X : Type 0} (p : X → Bool) (xs : List X) (x : X) → find p xs ≡ Some x → Contains xs x
found_there p xs x is = (find_holds p (Contains xs) xs x is (λ k d within. Contains-get_or xs k d within)).0

pub filter_few : {X : Type 0} (p : X → Bool) (xs : List X) → length (filter p xs) ≤ length xs
filter_few p xs = omega (arith, length-filter p xs, count_by-le-length p xs)

-- the last act's day
last_at : (rows : List ActRow) (row : ActRow) (place : ℕ) → place + 1 ≡ length rows → Some row ≡ slice_get rows place → row.day ≡ last_act_day rows
last_at [] row place long is = absurd (omega arith)
last_at (first ∷ []) row zero long is = ap (λ (found : Option ActRow). option_map_or (λ row. row.day) found 0) is
last_at (first ∷ []) row (suc place) long is = absurd (omega arith)
last_at (first ∷ next ∷ rows) row zero long is = absurd (omega arith)
last_at (first ∷ next ∷ rows) row (suc place) long is = last_at (next ∷ rows) row place (omega arith) is

pub last_is : (rows : List ActRow) (row : ActRow) → Some row ≡ slice_get rows (length rows - 1) → row.day ≡ last_act_day rows
last_is [] row is = absurd (cc)
last_is (first ∷ rows) row is = last_at (first ∷ rows) row (length (first ∷ rows) - 1) (omega arith) is
