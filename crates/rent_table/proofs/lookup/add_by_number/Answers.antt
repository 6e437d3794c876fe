use Rattle.std.proofs.Common.{refl}
use Rattle.rent_table.proofs.OwnLemmas.{indexed_next}
use Rattle.rent_table.proofs.lookup.add_by_number.Goals as goal

pub returns-clause-by_number : goal.returns-clause-by_number
returns-clause-by_number c =
    indexed_next c.args.units.now c.args.unit.now c.args.by_number.now.entries _ c.from.result _ c.requires.by_number c.index_grows.ensures c.from.ensures refl
    c.insert.ensures.entries
