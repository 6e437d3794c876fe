-- The most that an office holds (own rules).
use Rattle.std.specs.Prelude.{ℕ}

-- the most acts, and with them records and households: an act makes one record at most
abbrev pub most_acts : ℕ
most_acts = 100000

-- the most lines of closings
abbrev pub most_lines : ℕ
most_lines = 4000000
