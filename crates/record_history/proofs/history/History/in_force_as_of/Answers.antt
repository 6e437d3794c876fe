use Rattle.record_history.proofs.Words.{IsWithin}
use Rattle.record_history.proofs.Latest.{in_force_is}
use Rattle.record_history.proofs.history.History.in_force_as_of.Goals as goal

pub returns-clause-within : goal.returns-clause-within
returns-clause-within c =
    rw c.in_force_at.ensures (in_force_is IsWithin c.of.result.now.records.items c.args.act c.args.day c.of.ensures.indexed.kept.within)
