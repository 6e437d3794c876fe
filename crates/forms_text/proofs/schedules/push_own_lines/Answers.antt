use Rattle.std.proofs.Common.{◌≡◌, ◌∙◌, ◌==◌, ◌++◌, ap, filter, take, arith}
use Rattle.std.proofs.lemmas.List.{take_all}
use Rattle.std.specs.List.{flat_map}
use Rattle.office_core.specs.Below.office_step.Known.{known_of}
use Rattle.forms_text.specs.Form.{own_line}
use Rattle.forms_text.proofs.schedules.push_own_lines.Goals as goal

pub returns : goal.returns
returns c =
    let whole : take c.loop-line.line-index c.args.lines.now ≡ c.args.lines.now =
    take_all c.loop-line.line-index c.args.lines.now (omega (arith, c.loop-line-test.false)) in
    c.loop-line.invariant
    ∙ ap (λ lines. c.args.text.now.items ++ flat_map (own_line (known_of c.args.office.now.book)) (filter (λ line. line.for_month == c.args.month) lines)) whole
