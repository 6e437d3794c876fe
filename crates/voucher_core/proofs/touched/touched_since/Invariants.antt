use Rattle.voucher_core.proofs.Words.{◌≡◌, ◌-◌, All, map, records_of, changed_since, touched_household, BeginsUntouched}
use Rattle.voucher_core.proofs.touched.touched_since.Given as goal

abbrev pub invariant-loop-household : goal.invariant-loop-household
invariant-loop-household l = record {
  households : map touched_household l.changed.items ≡ changed_since l.last_close (records_of l.history.households) (l.household - 1);
  untouched : All (BeginsUntouched l.last_close (records_of l.history.households)) l.changed.items;
}
