-- The first day on which a test passes.
use Rattle.std.specs.Prelude.{◌≡◌, ◌≤◌, ℕ, ◌+◌, ◌&&◌, nat_lt, nat_le, Bool, Option, List, ◌∷◌, filter, find, All}
use Rattle.std.specs.List.{range_with_len}
use Rattle.row_choice.specs.Latest.{latest}

-- the first of so many days from one on that passes
abbrev pub first_day : (ℕ → Bool) → ℕ → ℕ → Option ℕ
first_day passes first count = find passes (range_with_len first count)

-- the earliest of some days
abbrev pub earliest : List ℕ → Option ℕ
earliest days = latest (λ day other. nat_lt other day) days

-- the day is one of so many from the first on
abbrev pub is_within : ℕ → ℕ → ℕ → Bool
is_within first count day = nat_le first day && nat_lt day (first + count)

-- two days between which none of the days lies: as many have come by the one as by the other
abbrev pub NothingBegins : List ℕ → ℕ → ℕ → Type 0
NothingBegins beginnings day next = All (λ b. nat_le b day ≡ nat_le b next) beginnings

-- the test answers alike on two days where nothing begins between them
abbrev pub ChangesAtBeginnings : (ℕ → Bool) → List ℕ → Type 0
ChangesAtBeginnings passes beginnings =
    (day next : ℕ) → day ≤ next → NothingBegins beginnings day next → passes day ≡ passes next

-- where the test changes only at beginnings, the first day that passes is the earliest among the first of all and the
-- beginnings
abbrev pub FirstDayIsABeginning : Type 0
FirstDayIsABeginning = (passes : ℕ → Bool) (beginnings : List ℕ) (first count : ℕ) →
    ChangesAtBeginnings passes beginnings →
    first_day passes first count ≡ earliest (filter (λ day. is_within first count day && passes day) (first ∷ beginnings))
