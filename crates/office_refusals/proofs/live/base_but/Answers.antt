use Rattle.std.proofs.Common.{subst, List}
use Rattle.std.specs.Prelude.{All}
use Rattle.record_history.specs.{declared.records.Record.Record, Held.IsWithin, Held.records_of}
use Rattle.office_refusals.proofs.Begins.{base_begins}
use Rattle.office_refusals.proofs.live.base_but.Goals as goal

pub returns-clause-within : goal.returns-clause-within
returns-clause-within c =
    rw c.last_in_order.ensures
    (base_begins (records_of c.args.history.now.households c.args.household) c.args.left_out c.args.day c.args.number
    (subst (λ (records : List Record). All IsWithin records) c.records-records.ensures.records c.records-records.ensures.within))
