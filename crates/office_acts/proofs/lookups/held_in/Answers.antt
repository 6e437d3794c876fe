use Rattle.std.proofs.Common.{refl}
use Rattle.std.specs.Prelude.{◌==◌}
use Rattle.list_laws.proofs.Finds.{found_holds}
use Rattle.record_history.specs.{declared.records.Record.Record, Held.IsWithin}
use Rattle.admission_order.specs.Below.office_register.Registered.{HasDates}
use Rattle.office_acts.proofs.Bounds.{dates-of}
use Rattle.office_acts.proofs.lookups.held_in.Goals as goal

pub returns-clause-within : goal.returns-clause-within
returns-clause-within c =
    rw c.record_among.ensures (found_holds (λ (r : Record). r.number == c.args.number) IsWithin c.records.result.now _ refl c.records.ensures.within)

pub returns-clause-dates : goal.returns-clause-dates
returns-clause-dates c =
    rw (c.record_among.ensures, c.records.ensures.records)
    (found_holds (λ (r : Record). r.number == c.args.number) HasDates _ _ refl (dates-of c.history.result.now.households c.args.household c.history.ensures.dates))
