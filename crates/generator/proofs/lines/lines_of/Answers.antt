use Rattle.std.proofs.Common.{◌∙◌, ◌++◌, ◌+◌, ap, sym}
use Rattle.generator.specs.Lines.{line_text}
use Rattle.generator.proofs.Numbered.{told_more}
use Rattle.generator.proofs.lines.lines_of.Goals as goal

pub loop-place-preserved : goal.loop-place-preserved
loop-place-preserved c =
    let place = c.loop-place.place in
    let act = c.index-acts-place.result in
    c.in_ok-push_line.ensures ∙ ap (λ text. text ++ line_text (place + 1, act)) c.loop-place.invariant
    ∙ sym (told_more line_text c.args.acts.now place act c.loop-place-test.true c.index-acts-place.is)
