use Rattle.std.proofs.Common.{◌∙◌, ap, ◌+◌, subst, List}
use Rattle.std.specs.Prelude.{All, filter}
use Rattle.days_core.specs.OfficeDays.{last_office_day}
use Rattle.record_history.specs.{declared.records.Record.Record, Held.AreNumbered, Held.IsWithin, Held.records_of}
use Rattle.tenancy_rules.specs.Changed.{is_before}
use Rattle.office_step.specs.Refusals.{base}
use Rattle.office_refusals.proofs.Begins.{none_out, all_before}
use Rattle.office_refusals.proofs.live.base.Goals as goal

pub returns-clause-value : goal.returns-clause-value
returns-clause-value c =
    let own : List Record = records_of c.args.history.now.households c.args.household in
    c.base_but.ensures.value
    ∙ ap (λ (live : List Record). base (filter (is_before (last_office_day + 1) 0) live))
    (none_out own (subst (λ (records : List Record). AreNumbered records) c.records-records.ensures.records c.records-records.ensures.numbered))
    ∙ ap base (all_before own (subst (λ (records : List Record). All IsWithin records) c.records-records.ensures.records c.records-records.ensures.within))
