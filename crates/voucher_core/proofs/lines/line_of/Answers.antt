use Rattle.voucher_core.proofs.Words.{◌≡◌, ◌∙◌, ◌+◌, ◌-◌, ◌-ℤ◌, to_z, of_z, w32, arith, ap, refl, first_of, first_of-suc, days_in_bounds, records_of, Change, certified_on, difference}
use Rattle.voucher_core.proofs.{Gathered.amount_is, Named.by_record}
use Rattle.voucher_core.proofs.lines.line_of.Goals as goal

pub overflow_add-first : goal.overflow_add-first
overflow_add-first c = omega (arith, first_of-suc c.args.month, (days_in_bounds c.args.month).1, c.number-before.ensures.value, c.first_of.ensures, c.requires.from, c.requires.in_order, c.requires.to)

pub overflow_add-last : goal.overflow_add-last
overflow_add-last c = omega (arith, first_of-suc c.args.month, (days_in_bounds c.args.month).1, c.number-before.ensures.value, c.first_of.ensures, c.requires.from, c.requires.in_order, c.requires.to)

pub share_run-new-requires-clause-in_month : goal.share_run-new-requires-clause-in_month
share_run-new-requires-clause-in_month c = omega (arith, first_of-suc c.args.month, c.number-before.ensures.value, c.first_of.ensures, c.days_in-days.ensures, c.requires.from, c.requires.in_order, c.requires.to, (days_in_bounds c.args.month).0)

pub share_run-old-requires-clause-in_month : goal.share_run-old-requires-clause-in_month
share_run-old-requires-clause-in_month c = omega (arith, first_of-suc c.args.month, c.number-before.ensures.value, c.first_of.ensures, c.days_in-days.ensures, c.requires.from, c.requires.in_order, c.requires.to, (days_in_bounds c.args.month).0)

pub day_at-requires-clause-last : goal.day_at-requires-clause-last
day_at-requires-clause-last c = omega (arith, first_of-suc c.args.month, c.number-before.ensures.value, c.first_of.ensures, c.requires.from, c.requires.in_order, c.requires.to, (days_in_bounds c.args.month).0)

pub day_at-requires-2-clause-last : goal.day_at-requires-2-clause-last
day_at-requires-2-clause-last c = omega (arith, first_of-suc c.args.month, c.number-before.ensures.value, c.first_of.ensures, c.requires.from, c.requires.in_order, c.requires.to, (days_in_bounds c.args.month).0)

pub returns : goal.returns
returns c = λ old new old_own new_own on.
    let before : c.number-before.result ≡ first_of c.args.month = c.number-before.ensures.value ∙ c.first_of.ensures in
    let first : c.args.run.now.first - c.number-before.result + 1 ≡ c.args.run.now.first + 1 - first_of c.args.month = omega (arith, before, c.requires.from) in
    let last : c.args.run.now.last - c.number-before.result + 1 ≡ c.args.run.now.last + 1 - first_of c.args.month = omega (arith, before, c.requires.from, c.requires.in_order) in
    let by_new = by_record (records_of c.args.history.now.households c.args.household) new c.assistance_of-new.ensures.numbered new_own c.args.month c.args.run.now.key.new c.args.run.now.first c.args.run.now.last
    c.requires.from c.requires.in_order (λ day from to. ap (λ (change : Change). change.new) (on day from to)) in
    let by_old = by_record (records_of c.args.history.now.households c.args.household) old c.assistance_of-new.ensures.numbered old_own c.args.month c.args.run.now.key.old c.args.run.now.first c.args.run.now.last
    c.requires.from c.requires.in_order (λ day from to. ap (λ (change : Change). change.old) (on day from to)) in
    let new_share : c.share_run-new.result ≡ certified_on new c.args.month c.args.run.now.first c.args.run.now.last = cc (c.share_run-new.ensures.sum, c.assistance_of-new.ensures.value, c.days_in-days.ensures, first, last, by_new) in
    let old_share : c.share_run-old.result ≡ certified_on old c.args.month c.args.run.now.first c.args.run.now.last = cc (c.share_run-old.ensures.sum, c.assistance_of-old.ensures.value, c.days_in-days.ensures, first, last, by_old) in
    let amount : to_z w32 (of_z w32 (to_z w32 c.share_run-new.result -ℤ to_z w32 c.share_run-old.result)) ≡ difference old new c.args.month c.args.run.now =
    amount_is c.share_run-new.result c.share_run-old.result (omega arith) (omega arith) ∙ cc (new_share, old_share) in
    let first_day : c.day_at.result ≡ c.args.run.now.first = omega (arith, c.day_at.ensures, first, c.requires.from) in
    let last_day : c.day_at-2.result ≡ c.args.run.now.last = omega (arith, c.day_at-2.ensures, last, c.requires.from, c.requires.in_order) in
    rw (first_day, last_day, amount) refl
