use Rattle.voucher_core.proofs.Words.{◌≤◌, All, take}
use Rattle.voucher_core.proofs.touched.first_day.Given as goal

abbrev pub invariant-loop-touched : goal.invariant-loop-touched
invariant-loop-touched l = All (λ t. l.first ≤ t.first) (take l.touched-index l.changed)
