-- Days in their order, and neighbours that have one key together.
use Rattle.std.specs.Prelude.{ℕ, ◌+◌, ◌-◌, ◌≤◌, ◌≡◌, ◌≢◌, ◌==◌, ◌||◌, not, Bool, List, [], ◌∷◌, map, filter, zip}
use Rattle.std.specs.List.{range_with_len}
use Rattle.record_history.specs.declared.stretch.Stretch.{Stretch}

-- the days from the first to the one before the next
abbrev pub days : ℕ → ℕ → List ℕ
days first next = range_with_len first (next - first)

-- a stretch begins on the day: it is the first of all, or the day before it has another key
abbrev pub begins : {K : Type 0} → (K → K → Bool) → (ℕ → K) → ℕ → ℕ → Bool
begins same key_on first day = day == first || not (same (key_on (day - 1)) (key_on day))

-- a stretch ends on the day: it is the last of all, or the day after it has another key
abbrev pub ends : {K : Type 0} → (K → K → Bool) → (ℕ → K) → ℕ → ℕ → Bool
ends same key_on next day = day + 1 == next || not (same (key_on day) (key_on (day + 1)))

-- the longest stretches of these days with one key: the days on which one begins, each with the day on which it ends
abbrev pub stretches : {K : Type 0} → (K → K → Bool) → (ℕ → K) → ℕ → ℕ → List (Stretch K)
stretches same key_on first next =
    map (λ stretch. record { first = stretch.0; last = stretch.1; key = key_on stretch.0 })
    (zip (filter (begins same key_on first) (days first next)) (filter (ends same key_on next) (days first next)))

-- the next stretch, if any, has another key
abbrev pub IsOther : {K : Type 0} → K → List (Stretch K) → Type 0
IsOther key [] = Unit {0}
IsOther key (next ∷ rest) = key ≢ next.key

-- The stretches go from the first day to the one before the next, each from the day after the one before it; each has the
-- key of each of its days, and none the key of its neighbour.
abbrev pub CoverLongest : {K : Type 0} → (ℕ → K) → ℕ → ℕ → List (Stretch K) → Type 0
CoverLongest key_on first next [] = first ≡ next
CoverLongest key_on first next (s ∷ rest) =
    (s.first ≡ first) × (first ≤ s.last) × ((day : ℕ) → first ≤ day → day ≤ s.last → s.key ≡ key_on day)
    × IsOther s.key rest × CoverLongest key_on (s.last + 1) next rest
