use Rattle.std.proofs.Common.{rules}
use Rattle.shared_desk.proofs.shared.SharedDesk.learn.Goals as goal

pub invariant_of-pass : goal.invariant_of-pass
invariant_of-pass g c = search rules
