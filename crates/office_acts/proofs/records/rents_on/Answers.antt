use Rattle.office_acts.proofs.Bounds.{rents-within}
use Rattle.office_acts.proofs.records.rents_on.Goals as goal

pub returns-clause-within : goal.returns-clause-within
returns-clause-within c =
    rw (c.rents_in_unit.ensures, c.table.ensures.units) (rents-within c.args.register.now.known.units c.table.result.now.rents c.args.unit c.args.day c.table.ensures.within)
