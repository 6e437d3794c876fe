use Rattle.std.proofs.Common.{◌∙◌, sym, Option}
use Rattle.std.specs.Option.{option_map_or}
use Rattle.record_history.specs.{declared.records.Record.Record, Records.live_records}
use Rattle.rent_table.specs.declared.plan.Plan.{Plan}
use Rattle.admission_order.specs.Below.office_step.{declared.rightful.Rightful.Rightful, Matter.own, Refusals.interim_right}
use Rattle.office_acts.specs.Matter.{matter_by}
use Rattle.office_acts.proofs.terms.told_right.Goals as goal

-- the record and the plan are those of the match
pub returns-in-Some-Some : goal.returns-in-Some-Some
returns-in-Some-Some c =
    let others = live_records (own (matter_by c.args.about.now)) in
    let right : Option Record → Option Plan → Rightful = λ made plan. option_map_or (λ (m : Record).
    option_map_or (λ (p : Plan). interim_right others c.args.dates m.ttp p.report_days) plan Rightful.Any) made Rightful.Any in
    let is_made = sym c.requires.made ∙ c.in-Some-Some.is-0 in
    let is_plan = sym c.in-Some-Some.ensures.plan in
    (rw (c.history-history.ensures.households, c.household.ensures) at c.interim_right.ensures) ∙ sym (λ i. right (is_made i) (is_plan i))
