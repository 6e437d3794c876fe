-- When a household is certified by other rents than its unit has, and on which day a gross rent change may take effect
-- (Handbook 4350.3 REV-1, chapter 7, in outline; the day: own rule).
use Rattle.std.specs.Prelude.{ℕ, ◌&&◌, ◌==◌, not, Bool, true, false, List, Option}
use Rattle.std.specs.Option.{option_map_or, option_and_then}
use Rattle.days_core.specs.{declared.rents.Rents.Rents, OfficeDays.last_office_day}
use Rattle.record_history.specs.{declared.records.Kind.Kind, declared.records.Record.Record, Records.in_force}
use Rattle.rent_table.specs.{declared.rows.Unit.Unit as UnitRow, declared.rows.RentRow.RentRow, Table.unit_at, Table.rents_on}
use Rattle.due_dates.specs.Least.{least_that}

-- it is a move-out or a termination
abbrev pub ends_assistance : Kind → Bool
ends_assistance Kind.MO = true
ends_assistance Kind.TM = true
ends_assistance _ = false

-- the rents of that unit on the day, where it is in the table and its group has rents then
abbrev pub unit_rents_on : List UnitRow → List RentRow → ℕ → ℕ → Option Rents
unit_rents_on units rows number day = option_and_then (λ unit. rents_on rows unit.group day) (unit_at units number)

-- the contract rent or the allowance for utilities is another
abbrev pub are_other_rents : Rents → Rents → Bool
are_other_rents rents other = not (rents.contract_rent == other.contract_rent && rents.utility == other.utility)

-- the record has other rents than its unit on the day, where the unit has rents then
abbrev pub has_stale_rents : List UnitRow → List RentRow → ℕ → Record → Bool
has_stale_rents units rows day r = option_map_or (are_other_rents r.rents) (unit_rents_on units rows r.unit day) false

-- the record in force on the day is there, is neither a move-out nor a termination, and has other rents than its unit
abbrev pub is_rent_stale_on : List Record → List UnitRow → List RentRow → ℕ → Bool
is_rent_stale_on records units rows day =
    option_map_or (λ r. not (ends_assistance r.kind) && has_stale_rents units rows day r) (in_force records day) false

-- the least such day from the first to the last
abbrev pub rent_due_day_of : List Record → List UnitRow → List RentRow → ℕ → ℕ → Option ℕ
rent_due_day_of records units rows first last = least_that (is_rent_stale_on records units rows) first last

-- the day on which a gross rent change may take effect: the least such day through 2099-12-31
abbrev pub gross_day_of : List Record → List UnitRow → List RentRow → Option ℕ
gross_day_of records units rows = rent_due_day_of records units rows 0 last_office_day
