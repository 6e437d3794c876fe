use Rattle.std.proofs.Common.{◌≡◌}
use Rattle.generator.specs.Acts.{numbers_to}
use Rattle.generator.proofs.months.numbers_to.Given as goal

abbrev pub invariant-loop-place : goal.invariant-loop-place
invariant-loop-place l = l.numbers.items ≡ numbers_to l.place
