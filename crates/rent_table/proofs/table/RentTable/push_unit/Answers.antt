use Rattle.std.proofs.Common.{ap, ◌≡◌}
use Rattle.rent_table.proofs.OwnLemmas.{HaveOwnNumbers-push, HaveOwnNames-push}
use Rattle.rent_table.proofs.table.RentTable.push_unit.Goals as goal

pub invariant_of-self : goal.invariant_of-self
invariant_of-self c =
    let units = c.self.inside.units.items in
    let same : units ≡ c.args.self.now.units = ap (λ table. table.units) c.self.view_is in
    rw c.push_reserved.ensures.items (record {
      numbers = HaveOwnNumbers-push units c.args.unit c.self.invariant.numbers (rw same c.requires.number);
      names = HaveOwnNames-push units c.args.unit c.self.invariant.names (rw same c.requires.name);
      numbered = rw c.deref.ensures.value at c.add_by_number.ensures.by_number;
      named = rw c.deref-2.ensures.value at c.add_by_name.ensures.by_name;
      rent_acts = c.self.invariant.rent_acts;
      limit_acts = c.self.invariant.limit_acts;
    })
