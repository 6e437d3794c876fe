-- An office's units, and which rents and income limits stand on a day.
use Rattle.std.specs.Prelude.{◌≡◌, ◌≢◌, ◌<◌, ℕ, ◌&&◌, ◌==◌, nat_eq, nat_le, Bool, Option, List, AllPairs, filter, find}
use Rattle.std.specs.{Option.option_map, Cmp.Lexicographic.pointwise}
use Rattle.days_core.specs.declared.rents.Rents.{Rents}
use Rattle.rent_table.specs.{declared.rows.Unit.Unit as UnitRow, declared.rows.RentRow.RentRow, declared.rows.LimitRow.LimitRow, Names.AreByName}
use Rattle.row_index.specs.{declared.index.Entry.Entry, Index.index_of}
use Rattle.row_choice.specs.Latest.{comes_before, latest}

-- what an office has on record, in the order in which it came, and for how many more rows of each sort it has room
pub record Table : Type 0 where
  pub units : List UnitRow
  pub rents : List RentRow
  pub limits : List LimitRow
  pub unit_room : ℕ
  pub rent_room : ℕ
  pub limit_room : ℕ

abbrev pub number_of : UnitRow → ℕ
number_of unit = unit.number

-- the unit of that number
abbrev pub unit_at : List UnitRow → ℕ → Option UnitRow
unit_at units number = find (λ unit. unit.number == number) units

-- the unit has that name, byte for byte
abbrev pub has_name : List ℕ → UnitRow → Bool
has_name name unit = pointwise nat_eq unit.name name

-- the number of the unit of that name
abbrev pub unit_named : List UnitRow → List ℕ → Option ℕ
unit_named units name = option_map (λ unit. unit.number) (find (has_name name) units)

-- no two units have the same number
abbrev pub HaveOwnNumbers : List UnitRow → Type 0
HaveOwnNumbers units = AllPairs (λ unit other. unit.number ≢ other.number) units

-- no two units have the same name
abbrev pub HaveOwnNames : List UnitRow → Type 0
HaveOwnNames units = AllPairs (λ unit other. unit.name ≢ other.name) units

-- each act that set rents comes after those that set the earlier ones
abbrev pub RentActsRise : List RentRow → Type 0
RentActsRise rows = AllPairs (λ row next. row.act < next.act) rows

-- each act that set limits comes after those that set the earlier ones
abbrev pub LimitActsRise : List LimitRow → Type 0
LimitActsRise rows = AllPairs (λ row next. row.act < next.act) rows

-- what is true of every table: units have numbers and names of their own, their places are kept by their numbers and in the order of
-- their names, and acts rise
pub record IsSound (units : List UnitRow) (by_number : List Entry) (by_name : List ℕ) (rents : List RentRow) (limits : List LimitRow) : Type 0 where
  pub numbers : HaveOwnNumbers units
  pub names : HaveOwnNames units
  pub numbered : by_number ≡ index_of number_of units
  pub named : AreByName units by_name
  pub rent_acts : RentActsRise rents
  pub limit_acts : LimitActsRise limits

-- one row of rents comes before another
abbrev pub rents_before : RentRow → RentRow → Bool
rents_before row other = comes_before row.from row.act other.from other.act

-- one row of limits comes before another
abbrev pub limits_before : LimitRow → LimitRow → Bool
limits_before row other = comes_before row.from row.act other.from other.act

-- the row sets rents of the group, and begins by the day
abbrev pub rents_begin_by : ℕ → ℕ → RentRow → Bool
rents_begin_by group day row = row.group == group && nat_le row.from day

-- the limits begin by the day
abbrev pub limits_begin_by : ℕ → LimitRow → Bool
limits_begin_by day row = nat_le row.from day

-- the row that sets the rents of a group on a day
abbrev pub rent_row_on : List RentRow → ℕ → ℕ → Option RentRow
rent_row_on rows group day = latest rents_before (filter (rents_begin_by group day) rows)

-- the rents of a group on a day: those of the row that begins last, and of several on one day of that of the latest act
-- (own rule)
abbrev pub rents_on : List RentRow → ℕ → ℕ → Option Rents
rents_on rows group day = option_map (λ row. row.rents) (rent_row_on rows group day)

-- the income limits on a day, found in the same way (own rule)
abbrev pub limits_on : List LimitRow → ℕ → Option LimitRow
limits_on rows day = latest limits_before (filter (limits_begin_by day) rows)
