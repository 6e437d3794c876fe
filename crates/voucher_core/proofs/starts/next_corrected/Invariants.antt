use Rattle.voucher_core.proofs.Words.{◌<◌, ◌≤◌, All, take, records_of, CorrectsNotWithin}
use Rattle.voucher_core.proofs.starts.next_corrected.Given as goal

abbrev pub invariant-loop-held : goal.invariant-loop-held
invariant-loop-held l = record {
  after : l.day < l.next;
  within : l.next ≤ l.end;
  apart : All (CorrectsNotWithin (records_of l.history.households l.household) l.day l.next) (take l.held-index l.newer);
}
