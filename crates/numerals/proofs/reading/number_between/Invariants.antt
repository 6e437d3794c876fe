use Rattle.std.proofs.Common.{◌≡◌, ◌≤◌, drop}
use Rattle.numerals.proofs.Digits.{found_after}
use Rattle.numerals.proofs.reading.number_between.Given as goal

abbrev pub invariant-loop-byte : goal.invariant-loop-byte
invariant-loop-byte l = record {
  small : l.number ≤ l.most;
  rest : found_after l.least l.most l.number (drop l.byte-index l.text) ≡ found_after l.least l.most 0 l.text;
}
