use Rattle.voucher_core.proofs.Words.{◌≡◌, ◌+◌, ◌-◌, ◌∙◌, sym, arith, List, last_of, first_of, Record, as_of, records_of, known_before, change_on}
use Rattle.voucher_core.proofs.{Alike.change_alike, Covered.exact_change, Covered.has_a_day, Covered.no_days}
use Rattle.voucher_core.proofs.changes.changes_of_month.Goals as goal

pub loop-day-init : goal.loop-day-init
loop-day-init c =
    let own : List Record = records_of c.args.history.now.households c.args.household in
    let first : c.number-first.result ≡ first_of c.args.month = c.number-first.ensures.value ∙ c.first_of.ensures in
    let last : c.number-end.result ≡ last_of c.args.month = c.number-end.ensures.value ∙ c.last_of.ensures in
    record {
      from = omega arith;
      to = omega (arith, has_a_day c.args.month);
      days = c.clear.ensures.items ∙ sym (no_days (known_before c.args.paid_at own) (as_of c.args.act own) c.number-first.result);
    }

pub loop-day-preserved : goal.loop-day-preserved
loop-day-preserved c =
    let own : List Record = records_of c.args.history.now.households c.args.household in
    let next : c.next_start-next.result - 1 + 1 ≡ c.next_start-next.result = omega (arith, c.next_start-next.ensures.after) in
    record {
      from = omega arith;
      to = c.next_start-next.ensures.within;
      days =
          rw next at (c.in_ok-add_days.ensures.ok (change_on (known_before c.args.paid_at own) (as_of c.args.act own)) c.number-first.result exact_change c.loop-day.invariant.from
          (λ other from to. change_alike (known_before c.args.paid_at own) (as_of c.args.act own) c.loop-day.day c.next_start-next.result other
          c.next_start-next.ensures.before c.next_start-next.ensures.now from (omega (arith, to, c.next_start-next.ensures.after)) ∙ sym c.change_on-change.ensures)
          c.loop-day.invariant.days);
    }

pub loop-day-smaller : goal.loop-day-smaller
loop-day-smaller c = omega arith

pub returns : goal.returns
returns c =
    let first : c.number-first.result ≡ first_of c.args.month = c.number-first.ensures.value ∙ c.first_of.ensures in
    let last : c.number-end.result ≡ last_of c.args.month = c.number-end.ensures.value ∙ c.last_of.ensures in
    let ends : c.loop-day.day ≡ last_of c.args.month + 1 = omega arith in
    rw (first, ends) at c.loop-day.invariant.days
