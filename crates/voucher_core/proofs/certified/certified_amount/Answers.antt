use Rattle.voucher_core.proofs.Words.{◌≡◌, ℕ, ◌+◌, ◌-◌, arith, days_in, first_of, last_of, first_of-suc, days_in_bounds, records_of, share_on, sum_by-range_more}
use Rattle.voucher_core.proofs.certified.certified_amount.Goals as goal

pub loop-place-preserved : goal.loop-place-preserved
loop-place-preserved c =
    let share : ℕ → ℕ = share_on (records_of c.args.history.now.households c.args.household) c.args.month in (
      omega (
        arith,
        c.loop-place.invariant.0,
        c.share_on-total.ensures.value,
        sum_by-range_more share (first_of c.args.month) c.loop-place.place (first_of c.args.month + (c.loop-place.place + 1 - 1)) (omega arith),
      ),
      omega (arith, c.loop-place.invariant.1, c.share_on-total.ensures.within),
    )

pub returns : goal.returns
returns c =
    let ends : c.loop-place.place ≡ days_in c.args.month = omega (arith, c.days_in-place-end.ensures) in
    let count : last_of c.args.month + 1 - first_of c.args.month ≡ days_in c.args.month = omega (arith, first_of-suc c.args.month, (days_in_bounds c.args.month).0) in
    rw count (rw ends at c.loop-place.invariant.0)
