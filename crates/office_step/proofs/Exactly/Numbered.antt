-- Units that are numbered in the order in which they came, by their numbers.
use Rattle.std.proofs.Common.{◌≡◌, ℕ, arith, List, Some}
use Rattle.std.specs.Prelude.{◌↔◌, Contains}
use Rattle.rent_table.specs.{declared.rows.Unit.Unit as UnitRow, Table.HaveOwnNumbers, Table.unit_at}
use Rattle.rent_table.proofs.FoundLemmas.{found_by_number as found_by_own_number}
use Rattle.office_step.specs.Known.{UnitsAreNumbered}

own_numbers : (units : List UnitRow) → UnitsAreNumbered units → HaveOwnNumbers units
own_numbers units numbered i j d before within same = omega (arith, same, before, within, numbered i d (omega (arith, before, within)), numbered j d within)

pub found_by_number : (units : List UnitRow) (number : ℕ) (unit : UnitRow) → UnitsAreNumbered units →
    (unit_at units number ≡ Some unit) ↔ (Contains units unit × (unit.number ≡ number))
found_by_number units number unit numbered = found_by_own_number units number unit (own_numbers units numbered)
