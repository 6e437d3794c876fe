-- How the first double use is found: among the days on which records begin, and household by household.
use Rattle.std.specs.Prelude.{ℕ, ◌&&◌, nat_lt, if◌then◌else◌, Bool, Option, Some, unwrap_or}
use Rattle.std.specs.Option.{option_map_or}
use Rattle.record_history.specs.declared.records.Record.{Record}
use Rattle.tenancy_rules.specs.{declared.occupancy.DoubleUse.DoubleUse, Occupancy.use_on, Occupancy.first_day_before}

-- the day on which the record begins, where it passes and comes before the day so far, or else before the end
abbrev pub sooner_beginning : (ℕ → Bool) → ℕ → Option ℕ → Record → Option ℕ
sooner_beginning passes end first r = if nat_lt r.from (unwrap_or first end) && passes r.from then Some r.from else first

-- the household and the first day on which it is a rival, where that comes before the day so far, or else before the end
abbrev pub sooner_rivalry : (ℕ → ℕ → Bool) → ℕ → Option DoubleUse → ℕ → Option DoubleUse
sooner_rivalry is_rival end first other =
    option_map_or (λ day. Some (use_on day other)) (first_day_before (option_map_or (λ found. found.day) first end) (is_rival other)) first
