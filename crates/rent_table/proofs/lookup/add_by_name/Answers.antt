use Rattle.rent_table.proofs.Words.{◌≡◌, length, IsOk, insert}
use Rattle.rent_table.proofs.ByName.{AreByName-push}
use Rattle.rent_table.proofs.lookup.add_by_name.Goals as goal

pub returns-clause-by_name : goal.returns-clause-by_name
returns-clause-by_name c =
    let done : IsOk c.insert.result = c.insert.ensures.succeeds c.requires.room in
    let placed : c.insert.new.self.items ≡ insert c.args.by_name.now.items c.names_before-at.result (length c.args.units.now) = rw done at c.insert.ensures.items in
    rw placed (AreByName-push c.args.units.now c.args.by_name.now.items c.args.unit.now c.names_before-at.result c.requires.by_name (rw c.deref.ensures.value at c.names_before-at.ensures.bound)
    (rw (c.as_bytes.ensures, c.deref.ensures.value) at c.names_before-at.ensures.point))
