use Rattle.std.proofs.Common.{◌∙◌, ap, ℕ, Option}
use Rattle.std.specs.Prelude.{option_and_then}
use Rattle.std.specs.Option.{option_map}
use Rattle.record_history.specs.{declared.records.Record.Record, Records.in_force}
use Rattle.admission_order.specs.Below.office_step.{declared.refusal.Refusal.Refusal, Known.own_in}
use Rattle.office_acts.proofs.closing.household_rent_due.Goals as goal

-- the day is the same, so what is told of it is
pub returns : goal.returns
returns c =
    let own = own_in c.args.register.now.known c.args.household in
    let told : Option ℕ → Option Refusal = λ found.
    option_and_then (λ (day : ℕ). option_map (λ (r : Record). Refusal.RentDue c.args.household r.number day) (in_force own day)) found in
    (rw (c.history.ensures.households, c.table.ensures.units, c.table.ensures.rents) at c.household_rent_due.ensures)
    ∙ ap told (c.review_day-first.ensures c.args.last)
