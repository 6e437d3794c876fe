use Rattle.std.proofs.Common.{◌≡◌, ◌∙◌, ◌≤◌, sym, ap, subst}
use Rattle.std.specs.Prelude.{IfOk, IfSome}
use Rattle.days_core.specs.OfficeDays.{last_office_month}
use Rattle.admission_order.specs.Below.office_step.{Known.Known, Refusals.first_of, Matter.Matter, Matter.matter_of, Made.record_in, Against.tests_on}
use Rattle.office_acts.specs.Judged.{judged_by, IsMade}
use Rattle.office_acts.proofs.Ready.{closes_by}
use Rattle.office_acts.proofs.judging.judge_any.Goals as goal

pub judge_matter-requires-clause-command : goal.judge_matter-requires-clause-command
judge_matter-requires-clause-command c = record {
  asked = c.args.command.now;
  is = c.matter_of-about.ensures ∙ ap (λ (known : Known). matter_of known c.args.command.now) (sym (ap (λ (m : Matter). m.known) c.matter_of-about.ensures));
}

pub returns-clause-judged : goal.returns-clause-judged
returns-clause-judged c =
    subst (λ (m : Matter). c.judge_matter.result ≡ judged_by (first_of (tests_on c.args.most c.args.today m)) (record_in m)) c.matter_of-about.ensures
    c.judge_matter.ensures.judged

pub returns-clause-made : goal.returns-clause-made
returns-clause-made c =
    subst (λ (known : Known). IfOk c.judge_matter.result (λ made. IfSome made (IsMade known))) (ap (λ (m : Matter). m.known) c.matter_of-about.ensures)
    c.judge_matter.ensures.made

pub returns-clause-month : goal.returns-clause-month
returns-clause-month c ok =
    closes_by c.args.register.now.known c.args.command.now last_office_month
    (subst (λ (m : Matter). IfSome m.month (λ month. month ≤ last_office_month)) c.matter_of-about.ensures (c.judge_matter.ensures.month ok))
