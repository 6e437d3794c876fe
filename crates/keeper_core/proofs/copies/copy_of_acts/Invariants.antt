use Rattle.std.proofs.Common.{◌≡◌, take}
use Rattle.keeper_core.proofs.copies.copy_of_acts.Given as goal

abbrev pub invariant-loop-act : goal.invariant-loop-act
invariant-loop-act l = l.copies.items ≡ take l.act-index l.acts
