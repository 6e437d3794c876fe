-- Whose turn it is to move, of the households that would.
use Rattle.std.specs.Prelude.{not, nat_lt, Bool, true, false, Option, List}
use Rattle.row_choice.specs.Latest.{latest}
use Rattle.record_history.specs.declared.records.Record.{Record}
use Rattle.rent_table.specs.declared.rows.Unit.{Unit as UnitRow}
use Rattle.office_register.specs.Below.office_step.{declared.known.Mover.Mover, Candidates.in_need}

-- the other record has the greater number
abbrev pub newer : Record → Record → Bool
newer r other = nat_lt r.number other.number

-- the other asked first
abbrev pub came_first : Mover → Mover → Bool
came_first mover other = nat_lt other.act mover.act

-- the one who asked first
abbrev pub first_of_movers : List Mover → Option Mover
first_of_movers movers = latest came_first movers

-- it needs accessible features that the unit has; or, the other way, it doesn't
abbrev pub is_turn : UnitRow → Bool → Mover → Bool
is_turn unit true mover = in_need unit mover
is_turn unit false mover = not (in_need unit mover)
