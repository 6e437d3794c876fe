-- The order in which the lines of an office's closings stand, so that those of one month are found without a look at all.
use Rattle.std.specs.Prelude.{ℕ, ◌+◌, ◌*◌, ◌<◌, ◌≤◌, ◌≡◌, ◌⊎◌, ◌==◌, ◌&&◌, ◌||◌, nat_lt, Bool, List, AllPairs}
use Rattle.voucher_core.specs.declared.line.Line.{Line}

-- the place of a month and household among those of one closing: by the month that is paid for, then by the household
abbrev pub turn_of : ℕ → ℕ → ℕ
turn_of month household = month * 4294967296 + household

abbrev pub line_turn : Line → ℕ
line_turn l = turn_of l.for_month l.household

-- its closing is earlier, or the same and its turn no later
abbrev pub ComesNoLater : Line → Line → Type 0
ComesNoLater a b = (a.month < b.month) ⊎ ((a.month ≡ b.month) × (line_turn a ≤ line_turn b))

abbrev pub StandInTurn : List Line → Type 0
StandInTurn lines = AllPairs ComesNoLater lines

-- its closing is one before that of the month, or that one and its turn earlier
abbrev pub is_before : ℕ → ℕ → Line → Bool
is_before closed turn l = nat_lt l.month closed || (l.month == closed && nat_lt (line_turn l) turn)
