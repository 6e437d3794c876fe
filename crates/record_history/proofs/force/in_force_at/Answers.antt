use Rattle.record_history.proofs.Words.{◌∙◌, sym, arith}
use Rattle.record_history.proofs.Kept.{acts_by}
use Rattle.record_history.proofs.Latest.{in_force_known}
use Rattle.record_history.proofs.force.in_force_at.Goals as goal

pub returns-then-newest_act_among-act : goal.returns-then-newest_act_among-act
returns-then-newest_act_among-act c =
    c.in_force_among.ensures
    ∙ sym (in_force_known c.args.act c.args.own.now.records.items c.args.day
    (λ k d within. omega (arith, c.newest_act_among.ensures, c.if-newest_act_among-act.true, (acts_by 0 c.args.own.now.records.items).1 k d within)))
