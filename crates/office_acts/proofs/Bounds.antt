-- What holds of the rents of a unit, and of a record that is looked up.
use Rattle.std.proofs.Common.{◌≡◌, ℕ, Bool, true, List, Option, Some, None, arith}
use Rattle.std.specs.Prelude.{All, IfSome, filter, option_and_then}
use Rattle.std.specs.Option.{option_map}
use Rattle.std.proofs.lemmas.{Bool.Decides.nat_tests}
use Rattle.std.proofs.lemmas.List.Elements.{All-nil, All-filter}
use Rattle.row_choice.proofs.LatestLemmas.{latest-among}
use Rattle.record_history.specs.{declared.records.Record.Record, Held.records_of}
use Rattle.record_history.proofs.Latest.{records_are}
use Rattle.admission_order.specs.Below.office_register.Registered.{HasDates}
use Rattle.rent_table.specs.declared.rows.{Unit.Unit as UnitRow, RentRow.RentRow}
use Rattle.rent_table.specs.Table.{unit_at, rents_before, rents_begin_by, rent_row_on, rents_on}
use Rattle.due_dates.specs.Stale.{unit_rents_on}
use Rattle.book_rows.specs.Fit.{are_rents}
use Rattle.office_acts.specs.Judged.{AreWithin}

of_unit : (rows : List RentRow) (day : ℕ) → All (λ row. are_rents row.rents ≡ true) rows → (unit : Option UnitRow) →
    IfSome (option_and_then (λ u. rents_on rows u.group day) unit) AreWithin
of_unit rows day fit None = tt
of_unit rows day fit (Some unit) =
    IfSome-map (rent_row_on rows unit.group day)
    (latest-among rents_before (λ (row : RentRow). are_rents row.rents ≡ true) None (filter (rents_begin_by unit.group day) rows) tt
    (All-filter (rents_begin_by unit.group day) (λ (row : RentRow). are_rents row.rents ≡ true) rows fit))
  where
    IfSome-map : (found : Option RentRow) → IfSome found (λ row. are_rents row.rents ≡ true) → IfSome (option_map (λ row. row.rents) found) AreWithin
    IfSome-map None fit = tt
    IfSome-map (Some row) fit = grind (arith, nat_tests)

pub rents-within : (units : List UnitRow) (rows : List RentRow) (number day : ℕ) → All (λ row. are_rents row.rents ≡ true) rows →
    IfSome (unit_rents_on units rows number day) AreWithin
rents-within units rows number day fit = of_unit rows day fit (unit_at units number)

-- the records of each household have their dates in range
pub dates-of : (households : List (List Record)) (household : ℕ) → All (All HasDates) households → All HasDates (records_of households household)
dates-of households household dates = records_are (All HasDates) households household dates (All-nil HasDates)
