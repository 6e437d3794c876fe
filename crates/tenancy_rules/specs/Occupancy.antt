-- Which unit a household has on a day, and where one unit would have two households (own rules).
use Rattle.std.specs.Prelude.{ℕ, ◌+◌, ◌&&◌, ◌==◌, not, nat_le, if◌then◌else◌, Bool, false, List, length, filter, find, Option, Some, None, is_some, option_and_then}
use Rattle.std.specs.{Option.option_map, List.range_with_len}
use Rattle.days_core.specs.OfficeDays.{last_office_day}
use Rattle.row_choice.specs.FirstDay.{first_day}
use Rattle.record_history.specs.{declared.records.Record.Record, Records.live_records, Records.latest, Held.records_of}
use Rattle.tenancy_rules.specs.{declared.change.Change.Change, declared.occupancy.DoubleUse.DoubleUse, Changed.changed_records, Order.is_move_out}

-- the unit that a household has while the record is in force: that of the record, and none after a move-out
abbrev pub unit_kept : Record → Option ℕ
unit_kept r = if is_move_out r.kind then None else Some r.unit

-- the unit that a household with these live records has on the day: that of its record in force
abbrev pub occupied_unit_on : List Record → ℕ → Option ℕ
occupied_unit_on records day = option_and_then unit_kept (latest (filter (λ r. nat_le r.from day) records))

-- both have a unit, and it is the same
abbrev pub is_one_unit : Option ℕ → Option ℕ → Bool
is_one_unit None other = false
is_one_unit (Some unit) None = false
is_one_unit (Some unit) (Some other) = unit == other

-- two households with these live records have one unit on the day
abbrev pub have_one_unit_on : List Record → List Record → ℕ → Bool
have_one_unit_on records others day = is_one_unit (occupied_unit_on records day) (occupied_unit_on others day)

-- the other household is another, and they would have one unit on the day, after the change of this one
unfoldable pub is_rival_on : List (List Record) → ℕ → Change → ℕ → ℕ → Bool
is_rival_on households household change other day =
    not (other == household)
    && have_one_unit_on (changed_records (records_of households household) change) (live_records (records_of households other)) day

-- the first of so many households that is a rival on the day
abbrev pub first_rival_on : (ℕ → ℕ → Bool) → ℕ → ℕ → Option ℕ
first_rival_on is_rival count day = find (λ other. is_rival other day) (range_with_len 1 count)

-- the first day, from 1880-01-01 on, that passes and comes before the end
unfoldable pub first_day_before : ℕ → (ℕ → Bool) → Option ℕ
first_day_before end passes = first_day passes 0 end

-- a double use with that household on that day
abbrev pub use_on : ℕ → ℕ → DoubleUse
use_on day other = record { household = other; day = day }

-- the first day before the end on which there is a rival, with the first rival on that day
abbrev pub first_rivalry : (ℕ → ℕ → Bool) → ℕ → ℕ → Option DoubleUse
first_rivalry is_rival count end =
    option_and_then (λ day. option_map (use_on day) (first_rival_on is_rival count day))
    (first_day_before end (λ day. is_some (first_rival_on is_rival count day)))

-- the first day through 2099-12-31 on which one unit would have this household and another, and the first such other
abbrev pub first_double_use : List (List Record) → ℕ → Change → Option DoubleUse
first_double_use households household change = first_rivalry (is_rival_on households household change) (length households) (last_office_day + 1)
