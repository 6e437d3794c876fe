use Rattle.voucher_core.proofs.Words.{◌∙◌, arith, common_steps, List, Record, as_of, records_of, known_before}
use Rattle.voucher_core.proofs.{Covered.is_of_month, Named.as_of_own, Named.before_own}
use Rattle.voucher_core.proofs.lines.add_household.Goals as goal

pub line_of-line-requires-clause-from : goal.line_of-line-requires-clause-from
line_of-line-requires-clause-from c =
    let own : List Record = records_of c.args.history.now.households c.args.household in
    let is = is_of_month (known_before c.args.paid_at own) (as_of c.args.closing.now.act own) c.args.month c.deref-found.result.now c.loop-run.run-index (record { first = 0; last = 0; key = record { old = 0; new = 0 } })
    (c.deref-found.ensures.value ∙ c.in_ok-changes_of_month.ensures) c.loop-run-test.true in
    is.from

pub line_of-line-requires-clause-in_order : goal.line_of-line-requires-clause-in_order
line_of-line-requires-clause-in_order c =
    let own : List Record = records_of c.args.history.now.households c.args.household in
    let is = is_of_month (known_before c.args.paid_at own) (as_of c.args.closing.now.act own) c.args.month c.deref-found.result.now c.loop-run.run-index (record { first = 0; last = 0; key = record { old = 0; new = 0 } })
    (c.deref-found.ensures.value ∙ c.in_ok-changes_of_month.ensures) c.loop-run-test.true in
    is.in_order

pub line_of-line-requires-clause-to : goal.line_of-line-requires-clause-to
line_of-line-requires-clause-to c =
    let own : List Record = records_of c.args.history.now.households c.args.household in
    let is = is_of_month (known_before c.args.paid_at own) (as_of c.args.closing.now.act own) c.args.month c.deref-found.result.now c.loop-run.run-index (record { first = 0; last = 0; key = record { old = 0; new = 0 } })
    (c.deref-found.ensures.value ∙ c.in_ok-changes_of_month.ensures) c.loop-run-test.true in
    omega (arith, is.to)

pub loop-run-preserved : goal.loop-run-preserved
loop-run-preserved c =
    let own : List Record = records_of c.args.history.now.households c.args.household in
    let is = is_of_month (known_before c.args.paid_at own) (as_of c.args.closing.now.act own) c.args.month c.deref-found.result.now c.loop-run.run-index (record { first = 0; last = 0; key = record { old = 0; new = 0 } })
    (c.deref-found.ensures.value ∙ c.in_ok-changes_of_month.ensures) c.loop-run-test.true in
    let line = c.line_of-line.ensures (known_before c.args.paid_at own) (as_of c.args.closing.now.act own) (before_own c.args.paid_at own) (as_of_own c.args.closing.now.act own) is.key in
    grind (arith, common_steps, line)
