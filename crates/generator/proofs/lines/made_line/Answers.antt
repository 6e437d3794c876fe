use Rattle.std.proofs.Common.{◌∙◌}
use Rattle.generator.proofs.Grown.{line_grown}
use Rattle.generator.proofs.lines.made_line.Goals as goal

pub returns : goal.returns
returns c =
    c.new.ensures
    ∙ line_grown c.args.request c.args.act.now _ _ _ _ _ _ _ _ _ _ _
    (c.as_bytes.ensures ∙ c.in_ok-body.ensures.body) (c.as_bytes-2.ensures.value ∙ c.in_ok-request.ensures) (c.as_bytes-3.ensures ∙ c.in_ok-day.ensures)
    c.new-line.ensures.items c.in_ok-push.ensures c.in_ok-push-2.ensures c.in_ok-push-3.ensures c.in_ok-push-4.ensures
    c.in_ok-push-5.ensures c.in_ok-push-6.ensures c.in_ok-push-7.ensures
