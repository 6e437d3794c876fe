-- What it comes to that no unit would have two households, and that a change is judged.
use Rattle.std.specs.Prelude.{◌≡◌, ◌≢◌, ◌≤◌, ℕ, if◌then◌else◌, List, [], ◌∷◌, ◌++◌, length, Some, None}
use Rattle.days_core.specs.OfficeDays.{last_office_day}
use Rattle.record_history.specs.{declared.records.Record.Record, Records.is_withdrawal, Records.live_records, Held.records_of}
use Rattle.tenancy_rules.specs.{declared.change.Change.Change, declared.occupancy.DoubleUse.DoubleUse, Changed.changed_records, Occupancy.occupied_unit_on, Occupancy.first_double_use}

-- where no double use is found, no other household has this one's unit on any day through 2099-12-31
abbrev pub NoUnitHasTwo : Type 0
NoUnitHasTwo = (households : List (List Record)) (household : ℕ) (change : Change) →
    first_double_use households household change ≡ None →
    (other day unit : ℕ) → 1 ≤ other → other ≤ length households → other ≢ household → day ≤ last_office_day →
    occupied_unit_on (changed_records (records_of households household) change) day ≡ Some unit →
    occupied_unit_on (live_records (records_of households other)) day ≢ Some unit

-- the double use that is found is one: another household has the unit on that day
abbrev pub DoubleUseHasTwo : Type 0
DoubleUseHasTwo = (households : List (List Record)) (household : ℕ) (change : Change) (found : DoubleUse) →
    first_double_use households household change ≡ Some found →
    (found.household ≢ household) × (found.day ≤ last_office_day) × (unit : ℕ)
    × (occupied_unit_on (changed_records (records_of households household) change) found.day ≡ Some unit)
    × (occupied_unit_on (live_records (records_of households found.household)) found.day ≡ Some unit)

-- once a record is held too, the records that live are those that were judged: without the one that it corrects or
-- withdraws, and with it where it is no withdrawal itself
abbrev pub ChangeIsWhatLives : List Record → Record → Type 0
ChangeIsWhatLives records held =
    live_records (records ++ held ∷ []) ≡
    changed_records records (record { drop = held.corrects; add = if is_withdrawal held.kind then None else Some held })
