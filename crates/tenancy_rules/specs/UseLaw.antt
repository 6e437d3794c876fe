-- Which unit a household has on a day, and which double use is found, in plain facts (own rules).
use Rattle.std.specs.Prelude.{◌≡◌, ◌≢◌, ◌↔◌, ◌≤◌, ◌<◌, ◌⊎◌, ℕ, List, length, Some, None, Contains}
use Rattle.days_core.specs.OfficeDays.{last_office_day}
use Rattle.record_history.specs.{declared.records.Kind.Kind, declared.records.Record.Record, Records.live_records, Held.records_of}
use Rattle.tenancy_rules.specs.{declared.change.Change.Change, declared.occupancy.DoubleUse.DoubleUse, Changed.changed_records, Changed.NumbersRise, OrderLaw.Precedes, Occupancy.occupied_unit_on, Occupancy.first_double_use}

-- the record is the one of them that begins last by the day
pub record IsLastBy (records : List Record) (day : ℕ) (r : Record) : Type 0 where
  pub listed : Contains records r
  pub begun : r.from ≤ day
  pub last : (other : Record) → Contains records other → other.from ≤ day → ¬ Precedes r other

-- a household has the unit of the record that begins last by the day, also after a termination of assistance; and it has
-- none where that record is a move-out, or where there is none
pub record OccupiedUnitIsPlain (records : List Record) (day : ℕ) : Type 0 where
  pub some : (unit : ℕ) → (occupied_unit_on records day ≡ Some unit) ↔ ((r : Record) × IsLastBy records day r × (r.kind ≢ Kind.MO) × (r.unit ≡ unit))
  pub none : (occupied_unit_on records day ≡ None) ↔ ((r : Record) → IsLastBy records day r → r.kind ≡ Kind.MO)

abbrev pub OccupancyIsPlain : Type 0
OccupancyIsPlain = (records : List Record) (day : ℕ) → NumbersRise records → OccupiedUnitIsPlain records day

-- On a day through 2099-12-31 another of the households has one unit with this one, as this one is after the change.
pub record IsDoubleUse (households : List (List Record)) (household : ℕ) (change : Change) (double : DoubleUse) : Type 0 where
  pub least : 1 ≤ double.household
  pub most : double.household ≤ length households
  pub another : double.household ≢ household
  pub by : double.day ≤ last_office_day
  pub unit : ℕ
  pub own : occupied_unit_on (changed_records (records_of households household) change) double.day ≡ Some unit
  pub others : occupied_unit_on (live_records (records_of households double.household)) double.day ≡ Some unit

-- The double use that is found is one, and each is on a later day, or on that day and of no lesser household.
abbrev pub DoubleUseIsFirst : Type 0
DoubleUseIsFirst = (households : List (List Record)) (household : ℕ) (change : Change) (found : DoubleUse) →
    (first_double_use households household change ≡ Some found) ↔ (IsDoubleUse households household change found
    × ((any : DoubleUse) → IsDoubleUse households household change any → (found.day < any.day) ⊎ ((found.day ≡ any.day) × (found.household ≤ any.household))))

-- none is found exactly where there is none
abbrev pub NoDoubleUse : Type 0
NoDoubleUse = (households : List (List Record)) (household : ℕ) (change : Change) →
    (first_double_use households household change ≡ None) ↔ ((any : DoubleUse) → ¬ IsDoubleUse households household change any)
