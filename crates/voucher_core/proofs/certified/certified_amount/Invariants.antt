use Rattle.voucher_core.proofs.Words.{◌≡◌, ◌≤◌, ◌*◌, sum_by, range_with_len, first_of, records_of, share_on}
use Rattle.days_core.specs.RentBounds.{most_gross_rent}
use Rattle.voucher_core.proofs.certified.certified_amount.Given as goal

abbrev pub invariant-loop-place : goal.invariant-loop-place
invariant-loop-place l =
    (l.total ≡ sum_by (share_on (records_of l.history.households l.household) l.month) (range_with_len (first_of l.month) l.place)) × (l.total ≤ most_gross_rent * l.place)
