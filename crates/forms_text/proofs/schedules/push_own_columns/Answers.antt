use Rattle.std.proofs.lemmas.Result.{on_ok_weaker}
use Rattle.forms_text.specs.Form.{own_columns}
use Rattle.forms_text.proofs.Rows.{seven}
use Rattle.forms_text.proofs.schedules.push_own_columns.Goals as goal

pub returns : goal.returns
unfolding own_columns
returns c =
    on_ok_weaker c.push-8.result
    (seven c.args.text.now.items _ _ _ _ _ _ _ _ _ _ _ _ _ _ _ _ _ _ _ _ _
    c.in_ok-push_right.ensures c.in_ok-push.ensures c.in_ok-push_left.ensures c.in_ok-push-2.ensures
    c.in_ok-push_left-2.ensures c.in_ok-push-3.ensures c.in_ok-push_left-3.ensures c.in_ok-push-4.ensures
    c.in_ok-push_right-2.ensures c.in_ok-push-5.ensures c.in_ok-push_right-3.ensures c.in_ok-push-6.ensures
    c.in_ok-push-7.ensures)
    c.push-8.ensures
