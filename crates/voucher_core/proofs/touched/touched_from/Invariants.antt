use Rattle.voucher_core.proofs.Words.{◌≤◌, All, take, records_of, earlier_start}
use Rattle.voucher_core.proofs.touched.touched_from.Given as goal

abbrev pub invariant-loop-held : goal.invariant-loop-held
invariant-loop-held l = All (λ r. l.first ≤ earlier_start (records_of l.history.households l.household) r) (take l.held-index l.newer)
