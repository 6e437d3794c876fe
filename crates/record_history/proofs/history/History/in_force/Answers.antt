use Rattle.record_history.proofs.Words.{IsWithin}
use Rattle.record_history.proofs.Latest.{in_force_among}
use Rattle.record_history.proofs.history.History.in_force.Goals as goal

pub returns-clause-within : goal.returns-clause-within
returns-clause-within c =
    rw c.in_force_among.ensures (in_force_among IsWithin c.of.result.now.records.items c.args.day c.of.ensures.indexed.kept.within)
