use Rattle.std.proofs.Common.{◌≡◌, drop}
use Rattle.applicant_rows.proofs.Rows.{each_after, numbers_in}
use Rattle.applicant_rows.proofs.preferences.numbers_of.Given as goal

abbrev pub invariant-loop-part : goal.invariant-loop-part
invariant-loop-part l = each_after l.numbers.items (drop l.part-index l.parts) ≡ numbers_in l.parts
