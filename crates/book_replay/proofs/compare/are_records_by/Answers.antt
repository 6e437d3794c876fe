use Rattle.book_replay.proofs.Words.{◌∙◌, sym, same_record}
use Rattle.book_replay.proofs.{Compared.none_more, Compared.counted, Compared.passed_over, compare.are_records_by.Goals.then-made-n+else-not-is_record_at, compare.are_records_by.Goals.else-made-n}
use Rattle.book_replay.proofs.compare.are_records_by.Goals as goal

pub returns-then-not-is_record_at : goal.returns-then-not-is_record_at
returns-then-not-is_record_at c =
    sym (none_more (λ row. row.act) same_record c.args.own.now c.args.records.now c.args.n c.loop-made.seen c.loop-made.made-index c.made-item.result
    c.loop-made-test.true c.made-item.is c.if-made-n.true (sym c.is_record_at.ensures ∙ c.if-not-is_record_at.true))
    ∙ c.loop-made.invariant.1

pub loop-made-preserved : goal.loop-made-preserved
loop-made-preserved c = elim c.if-made-n.branch [
  | then-made-n+else-not-is_record_at w ↦
      counted (λ row. row.act) same_record c.args.own.now c.args.records.now c.args.n c.loop-made.seen _ c.loop-made.made-index c.made-item.result _
      c.loop-made-test.true c.made-item.is w.if-made-n.true (sym w.is_record_at.ensures ∙ w.if-not-is_record_at.false) w.seen-is c.loop-made.invariant.1
  | else-made-n w ↦
      passed_over (λ row. row.act) same_record c.args.own.now c.args.records.now c.args.n c.loop-made.seen _ c.loop-made.made-index c.made-item.result _
      c.loop-made-test.true c.made-item.is w.if-made-n.false w.seen-is c.loop-made.invariant.0 c.loop-made.invariant.1
]
