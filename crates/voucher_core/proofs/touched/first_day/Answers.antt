use Rattle.voucher_core.proofs.Words.{◌≤◌, arith, take, All-weaker, Touched}
use Rattle.std.proofs.lemmas.List.{take_all}
use Rattle.std.proofs.lemmas.List.Elements.{All-more}
use Rattle.voucher_core.proofs.touched.first_day.Goals as goal

pub loop-touched-preserved : goal.loop-touched-preserved
loop-touched-preserved c =
    All-more (λ (t : Touched). c.min-first.result ≤ t.first) c.args.changed.now c.loop-touched.touched-index (record { household = 0; first = 0 }) c.loop-touched-test.true
    (All-weaker (λ (t : Touched). c.loop-touched.first ≤ t.first) (λ t. c.min-first.result ≤ t.first) (λ t least. omega arith)
    (take c.loop-touched.touched-index c.args.changed.now) c.loop-touched.invariant)
    (omega arith)

pub returns : goal.returns
returns c =
    let all = take_all c.loop-touched.touched-index c.args.changed.now c.loop-touched-test.false in
    rw all at c.loop-touched.invariant
