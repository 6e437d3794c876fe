-- When an extremely low-income family is wanted, and which rank an applicant has, in plain facts (24 CFR 5.653 and 5.655;
-- Handbook 4350.3 REV-1, chapter 4; the counts, the turns and the numbers are own rules).
use Rattle.std.specs.Prelude.{◌≡◌, ◌↔◌, ◌-◌, ◌*◌, ◌%◌, ◌<◌, ◌≤◌, ◌⊎◌, ℕ, true, Some, List, Contains, slice_get}
use Rattle.wait_list.specs.{declared.targets.Targets.Targets, Target.wants_extremely_low, Rank.best_rank}

-- Of ten admissions that are expected in the fiscal year fewer than four were of extremely low-income families; and by the
-- first method, or by the second after an even number of admissions, it is the turn of one.
pub record IsWanted (targets : Targets) : Type 0 where
  pub below : 10 * targets.extremely < 4 * targets.expected
  pub turn : (targets.method ≡ 1) ⊎ ((targets.method ≡ 2) × (targets.admitted % 2 ≡ 0))

abbrev pub WantedIsPlain : Type 0
WantedIsPlain = (targets : Targets) → (wants_extremely_low targets ≡ true) ↔ IsWanted targets

-- the plan gives this rank to the preference of that code, of which the first has code 1
abbrev pub IsRanked : List ℕ → ℕ → ℕ → Type 0
IsRanked ranks code rank = (1 ≤ code) × (slice_get ranks (code - 1) ≡ Some rank)

-- the best rank is the least of those of the preferences, and 100 where none of them is ranked
pub record BestRankIsLeast (ranks preferences : List ℕ) : Type 0 where
  pub least : (code rank : ℕ) → Contains preferences code → IsRanked ranks code rank → best_rank ranks preferences ≤ rank
  pub one_of : ((code : ℕ) × Contains preferences code × IsRanked ranks code (best_rank ranks preferences))
      ⊎ ((best_rank ranks preferences ≡ 100) × ((code rank : ℕ) → Contains preferences code → ¬ IsRanked ranks code rank))

abbrev pub RankIsPlain : Type 0
RankIsPlain = (ranks preferences : List ℕ) → BestRankIsLeast ranks preferences
