use Rattle.std.proofs.Common.{◌≡◌, ◌++◌, map, take}
use Rattle.generator.proofs.each.ask_each.Given as goal

abbrev pub invariant-loop-number : goal.invariant-loop-number
invariant-loop-number g l = l.acts.items ≡ l.fn.acts.items ++ map (g.A.PerUnit.asked l.each) (take l.number-index l.numbers)
