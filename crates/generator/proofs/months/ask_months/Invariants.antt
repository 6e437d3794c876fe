use Rattle.std.proofs.Common.{◌≡◌, ◌++◌, flat_map}
use Rattle.std.specs.List.{range_with_len}
use Rattle.generator.specs.Acts.{month_acts}
use Rattle.generator.proofs.months.ask_months.Given as goal

abbrev pub invariant-loop-place : goal.invariant-loop-place
invariant-loop-place l = l.acts.items ≡ l.fn.acts.items ++ flat_map (month_acts l.numbers) (range_with_len l.first l.place)
