use Rattle.std.proofs.Common.{◌≤◌, refl}
use Rattle.std.specs.Prelude.{◌==◌}
use Rattle.list_laws.proofs.Finds.{found_holds}
use Rattle.rent_table.specs.declared.rows.Unit.{Unit as UnitRow}
use Rattle.admission_order.proofs.units.unit_in.Goals as goal

pub returns-clause-bedrooms : goal.returns-clause-bedrooms
returns-clause-bedrooms c =
    rw c.unit.ensures.value
    (found_holds (λ (unit : UnitRow). unit.number == c.args.number) (λ (unit : UnitRow). unit.bedrooms ≤ 5) c.table.result.now.units _ refl c.table.ensures.bedrooms)
