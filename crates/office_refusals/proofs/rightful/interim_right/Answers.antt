use Rattle.std.proofs.Common.{◌∙◌, ap, subst, List}
use Rattle.record_history.specs.{declared.records.Record.Record, Held.AreNumbered, Held.records_of}
use Rattle.office_step.specs.Refusals.{interim_right}
use Rattle.office_refusals.proofs.Begins.{none_out}
use Rattle.office_refusals.proofs.rightful.interim_right.Goals as goal

pub returns : goal.returns
returns c =
    c.interim_but.ensures
    ∙ ap (λ (live : List Record). interim_right live c.args.dates c.args.ttp c.args.report_days)
    (none_out (records_of c.args.history.now.households c.args.household)
    (subst (λ (records : List Record). AreNumbered records) c.records-records.ensures.records c.records-records.ensures.numbered))
