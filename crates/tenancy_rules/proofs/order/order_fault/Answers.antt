use Rattle.tenancy_rules.proofs.Words.{List, subst, Record, AreNumbered, records_of}
use Rattle.tenancy_rules.proofs.Numbers.{changed-rise}
use Rattle.tenancy_rules.proofs.order.order_fault.Goals as goal

pub returns-clause-own_number : goal.returns-clause-own_number
returns-clause-own_number c =
    changed-rise (records_of c.args.history.now.households c.args.household) c.args.household c.args.change.now
    (subst (λ (records : List Record). AreNumbered records) c.records-records.ensures.records c.records-records.ensures.numbered) c.requires.next
