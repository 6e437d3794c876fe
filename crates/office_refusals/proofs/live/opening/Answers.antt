use Rattle.std.proofs.Common.{◌∙◌, ap, subst, List}
use Rattle.record_history.specs.{declared.records.Record.Record, Held.AreNumbered, Held.records_of}
use Rattle.tenancy_rules.specs.Order.{earliest}
use Rattle.office_refusals.proofs.Begins.{none_out}
use Rattle.office_refusals.proofs.live.opening.Goals as goal

pub returns-clause-value : goal.returns-clause-value
returns-clause-value c =
    c.opening_but.ensures.value
    ∙ ap earliest (none_out (records_of c.args.history.now.households c.args.household)
    (subst (λ (records : List Record). AreNumbered records) c.records-records.ensures.records c.records-records.ensures.numbered))
