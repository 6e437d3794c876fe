use Rattle.book_replay.proofs.Words.{◌∙◌, sym, same_line}
use Rattle.book_replay.proofs.{Compared.none_more, Compared.counted, Compared.passed_over, compare.are_lines_by.Goals.then-line-n+else-not-is_line_at, compare.are_lines_by.Goals.else-line-n}
use Rattle.book_replay.proofs.compare.are_lines_by.Goals as goal

pub returns-then-not-is_line_at : goal.returns-then-not-is_line_at
returns-then-not-is_line_at c =
    sym (none_more (λ row. row.act) same_line c.args.own.now c.args.lines.now c.args.n c.loop-line.seen c.loop-line.line-index c.line-item.result
    c.loop-line-test.true c.line-item.is c.if-line-n.true (sym c.is_line_at.ensures ∙ c.if-not-is_line_at.true))
    ∙ c.loop-line.invariant.1

pub loop-line-preserved : goal.loop-line-preserved
loop-line-preserved c = elim c.if-line-n.branch [
  | then-line-n+else-not-is_line_at w ↦
      counted (λ row. row.act) same_line c.args.own.now c.args.lines.now c.args.n c.loop-line.seen _ c.loop-line.line-index c.line-item.result _
      c.loop-line-test.true c.line-item.is w.if-line-n.true (sym w.is_line_at.ensures ∙ w.if-not-is_line_at.false) w.seen-is c.loop-line.invariant.1
  | else-line-n w ↦
      passed_over (λ row. row.act) same_line c.args.own.now c.args.lines.now c.args.n c.loop-line.seen _ c.loop-line.line-index c.line-item.result _
      c.loop-line-test.true c.line-item.is w.if-line-n.false w.seen-is c.loop-line.invariant.0 c.loop-line.invariant.1
]
