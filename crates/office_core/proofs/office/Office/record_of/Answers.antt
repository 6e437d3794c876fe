use Rattle.std.specs.Prelude.{◌==◌, option_copied}
use Rattle.record_history.specs.{declared.records.Record.Record, Held.IsWithin}
use Rattle.book_replay.proofs.Below.office_laws.Tried.{found_holds}
use Rattle.office_core.proofs.office.Office.record_of.Goals as goal

pub returns-clause-within : goal.returns-clause-within
returns-clause-within c =
    found_holds (λ (r : Record). r.act == c.args.n) IsWithin c.self.inside.tables.records.items (option_copied c.record_of_act.result)
    (rw c.deref.ensures.value at c.record_of_act.ensures) c.self.invariant.records
