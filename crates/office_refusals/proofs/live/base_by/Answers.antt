use Rattle.std.proofs.Common.{◌∙◌, ap, ◌+◌, ℕ, subst, List}
use Rattle.std.specs.Prelude.{filter}
use Rattle.record_history.specs.{declared.records.Record.Record, Held.AreNumbered, Held.records_of, Records.live_records}
use Rattle.tenancy_rules.specs.Changed.{is_before}
use Rattle.office_step.specs.Refusals.{base}
use Rattle.office_refusals.proofs.Begins.{none_out, all_by}
use Rattle.office_refusals.proofs.live.base_by.Goals as goal

pub returns-clause-value : goal.returns-clause-value
returns-clause-value c =
    let own : List Record = records_of c.args.history.now.households c.args.household in
    c.base_but.ensures.value
    ∙ ap (λ (live : List Record). base (filter (is_before (c.number.result + 1) 0) live))
    (none_out own (subst (λ (records : List Record). AreNumbered records) c.records-records.ensures.records c.records-records.ensures.numbered))
    ∙ ap (λ (day : ℕ). base (filter (is_before (day + 1) 0) (live_records own))) c.number.ensures.value
    ∙ ap base (all_by own c.args.last)
