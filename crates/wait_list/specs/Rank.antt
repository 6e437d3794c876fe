-- The rank of an applicant by its preferences (Handbook 4350.3 REV-1, chapter 4; 24 CFR 5.655; the numbers are an own
-- rule).
use Rattle.std.specs.Prelude.{ℕ, ◌-◌, ◌==◌, min, if◌then◌else◌, Option, None, List, unwrap_or, slice_get}
use Rattle.std.specs.List.{filter_map, reduce}

-- the rank of the preference of that code, of which the first has code 1
abbrev pub rank_of : List ℕ → ℕ → Option ℕ
rank_of ranks code = if code == 0 then None else slice_get ranks (code - 1)

-- the least rank among the preferences that are ranked, and 100 where none is
abbrev pub best_rank : List ℕ → List ℕ → ℕ
best_rank ranks preferences = unwrap_or (reduce min (filter_map (rank_of ranks) preferences)) 100
