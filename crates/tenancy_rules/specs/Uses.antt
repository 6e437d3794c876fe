-- Which households ever had a record in a unit, by which the first double use is found.
use Rattle.std.specs.Prelude.{ℕ, ◌+◌, ◌==◌, nat_lt, if◌then◌else◌, Bool, Option, Some, List, [], All, Contains, filter, fold, vec_len, vec_capacity}
use Rattle.std.specs.{Global.Vec, Option.option_map_or, List.Sorted.IsNonDecreasingBy}
use Rattle.record_history.specs.{declared.records.Record.Record, Held.records_of}
use Rattle.tenancy_rules.specs.{declared.uses.Use.Use, declared.occupancy.DoubleUse.DoubleUse, Occupancy.use_on, Occupancy.first_day_before}

-- no use is of a lesser unit than one before it
abbrev pub UnitsNeverFall : List Use → Type 0
UnitsNeverFall uses = IsNonDecreasingBy (λ used. used.unit) uses

-- those of a unit
abbrev pub of_unit : List Use → ℕ → List Use
of_unit uses unit = filter (λ used. used.unit == unit) uses

-- the uses stand in the order of units, and tell the unit and the household of each record, whether or not it counts
pub record TellUses (households : List (List Record)) (uses : List Use) : Type 0 where
  pub in_order : UnitsNeverFall uses
  pub told : (household : ℕ) → All (λ r. Contains uses (record { unit = r.unit; household = household })) (records_of households household)

-- the room for records, where there is room for one use more
abbrev pub room_beside : List ℕ → Vec Use → List ℕ
room_beside room uses = if nat_lt (vec_len uses) (vec_capacity uses) then room else []

-- the day before which a double use with the other household comes first: on the day of the one so far only that with the
-- lesser household does
abbrev pub end_beside : Option DoubleUse → ℕ → ℕ → ℕ
end_beside first other end = option_map_or (λ found. if nat_lt other found.household then found.day + 1 else found.day) first end

-- the household of the use and the first day on which it is a rival, where that comes before the double use so far
abbrev pub sooner_use : (ℕ → ℕ → Bool) → ℕ → Option DoubleUse → Use → Option DoubleUse
sooner_use is_rival end first used =
    option_map_or (λ day. Some (use_on day used.household)) (first_day_before (end_beside first used.household end) (is_rival used.household)) first

-- the first of the double uses with households that had a record in the unit of that one
abbrev pub sooner_uses : (ℕ → ℕ → Bool) → ℕ → List Use → Option DoubleUse → Record → Option DoubleUse
sooner_uses is_rival end uses first r = fold (sooner_use is_rival end) first (of_unit uses r.unit)
