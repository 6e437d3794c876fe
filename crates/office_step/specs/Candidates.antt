-- Who is next for a unit on a day, by the tables.
use Rattle.std.specs.Prelude.{ℕ, ◌+◌, ◌-◌, ◌/◌, ◌==◌, ◌&&◌, not, nat_lt, if◌then◌else◌, Bool, true, false, Option, Some, None, option_and_then, List, length, filter, count_by, slice_index_or}
use Rattle.std.specs.{List.range_with_len, List.filter_map, List.flat_map, Option.option_map, Option.option_map_or}
use Rattle.row_choice.specs.Latest.{latest as latest_by}
use Rattle.days_core.specs.Calendar.{month_of}
use Rattle.record_history.specs.{declared.records.Record.Record, Records.live_records, Records.in_force, Held.records_of}
use Rattle.due_dates.specs.Stale.{ends_assistance}
use Rattle.tenancy_rules.specs.Order.{is_move_in, is_transfer}
use Rattle.rent_table.specs.{declared.plan.Plan.Plan, declared.rows.Unit.Unit as UnitRow, declared.rows.LimitRow.LimitRow, Admission.suits}
use Rattle.wait_list.specs.{declared.targets.Targets.Targets, Target.wants_extremely_low, Next.Asked}
use Rattle.office_step.specs.declared.known.{Request.Request, Mover.Mover}

-- ---- movers

-- the live transfer with the greatest number
abbrev pub newest_transfer : List Record → Option Record
newest_transfer own = latest_by (λ r other. nat_lt r.number other.number) (filter (λ r. is_transfer r.kind) (live_records own))

-- the household wants another unit, and wanted it after the act of its newest live transfer
abbrev pub counts : List Record → Request → Bool
counts own request = request.wanted && option_map_or (λ r. nat_lt r.act request.act) (newest_transfer own) true

-- the record is of an assisted household that lives in another unit, and the unit is for so many persons
abbrev pub would_move : Plan → UnitRow → Record → Bool
would_move plan unit r = not (ends_assistance r.kind) && (not (r.unit == unit.number) && suits plan unit r.persons)

-- the last that the household said of another unit
abbrev pub request_in : List (Option Request) → ℕ → Option Request
request_in requests household = if household == 0 then None else slice_index_or requests (household - 1) None

-- a household with these records would move, by the one that is in force on the day
abbrev pub would_move_on : Plan → UnitRow → ℕ → List Record → Bool
would_move_on plan unit day own = option_map_or (would_move plan unit) (in_force own day) false

-- and it is a mover if its request counts too
abbrev pub mover_by : Plan → UnitRow → ℕ → List Record → ℕ → Request → Option Mover
mover_by plan unit day own household request =
    if counts own request && would_move_on plan unit day own
    then Some (record { household = household; act = request.act; accessible = request.accessible }) else None

-- the household as a mover, where it is one
abbrev pub mover_of : Plan → UnitRow → ℕ → List (Option Request) → List (List Record) → ℕ → Option Mover
mover_of plan unit day requests households household =
    option_and_then (mover_by plan unit day (records_of households household) household) (request_in requests household)

-- all movers
abbrev pub movers_of : Plan → UnitRow → ℕ → List (Option Request) → List (List Record) → List Mover
movers_of plan unit day requests households = filter_map (mover_of plan unit day requests households) (range_with_len 1 (length households))

-- the mover needs accessible features, and the unit has them
abbrev pub in_need : UnitRow → Mover → Bool
in_need unit m = unit.accessible && m.accessible

-- the household whose request came first
abbrev pub first_mover : List Mover → Option ℕ
first_mover movers = option_map (λ m. m.household) (latest_by (λ m other. nat_lt other.act m.act) movers)

-- ---- admissions of a year

-- the number of the fiscal year in which a month lies
abbrev pub fiscal_year : Plan → ℕ → ℕ
fiscal_year plan month = (month + 13 - plan.fiscal_month) / 12

-- the record is a move-in of the fiscal year of the day
abbrev pub is_admission : Plan → ℕ → Record → Bool
is_admission plan day r = is_move_in r.kind && fiscal_year plan (month_of r.from) == fiscal_year plan (month_of day)

-- the move-ins of that year that count
abbrev pub admissions : Plan → ℕ → List (List Record) → List Record
admissions plan day households = filter (is_admission plan day) (flat_map live_records households)

-- how far the office is with them
abbrev pub targets_of : Plan → ℕ → List (List Record) → Targets
targets_of plan day households = record {
  method = plan.method;
  expected = plan.expected;
  admitted = length (admissions plan day households);
  extremely = count_by (λ r. r.extremely) (admissions plan day households);
}

-- ---- the question

-- what is asked about the unit on the day
abbrev pub asked_of : Plan → UnitRow → ℕ → Option LimitRow → List (Option Request) → List (List Record) → Asked
asked_of plan unit day limits requests households = record {
  unit = unit;
  plan = plan;
  limits = limits;
  wanted = wants_extremely_low (targets_of plan day households);
  needing = first_mover (filter (in_need unit) (movers_of plan unit day requests households));
  other = first_mover (filter (λ m. not (in_need unit m)) (movers_of plan unit day requests households));
}
