use Rattle.std.proofs.Common.{◌≡◌, None, rules}
use Rattle.admission_order.specs.Below.office_step.{Against.day_range, Against.facts_rule}
use Rattle.office_acts.specs.Matter.{matter_by}
use Rattle.office_acts.proofs.Ready.{in_time, kept, admitted_size}
use Rattle.office_acts.proofs.judging.judge_matter.Goals as goal

pub heading_in-heading-requires-clause-in_time : goal.heading_in-heading-requires-clause-in_time
heading_in-heading-requires-clause-in_time c =
    let none : day_range c.args.today (matter_by c.args.about.now) ≡ None = search rules in
    in_time c.args.today (matter_by c.args.about.now) c.requires.today none

pub heading_in-heading-requires-clause-facts : goal.heading_in-heading-requires-clause-facts
heading_in-heading-requires-clause-facts c =
    let none : facts_rule (matter_by c.args.about.now) ≡ None = search rules in
    kept (matter_by c.args.about.now) c.requires.command none

pub wrong_day-requires-clause-in_time : goal.wrong_day-requires-clause-in_time
wrong_day-requires-clause-in_time c =
    let none : day_range c.args.today (matter_by c.args.about.now) ≡ None = search rules in
    in_time c.args.today (matter_by c.args.about.now) c.requires.today none

pub ineligible-requires-clause-size : goal.ineligible-requires-clause-size
ineligible-requires-clause-size c =
    admitted_size (matter_by c.args.about.now) c.requires.command _ c.record_in-made.ensures.value c.record_in-made.ensures.size
