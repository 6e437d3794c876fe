use Rattle.std.specs.Prelude.{option_copied, ◌==◌}
use Rattle.list_laws.proofs.Finds.{found_holds}
use Rattle.record_history.proofs.Words.{IsWithin, Record}
use Rattle.record_history.proofs.history.History.record_at.Goals as goal

pub returns-clause-within : goal.returns-clause-within
returns-clause-within c =
    found_holds (λ (r : Record). r.number == c.args.number) IsWithin c.of.result.now.records.items (option_copied c.record_among.result)
    c.record_among.ensures c.of.ensures.indexed.kept.within
