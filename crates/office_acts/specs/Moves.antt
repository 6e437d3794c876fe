-- A move, as the code holds it.
use Rattle.admission_order.specs.Below.office_step.Against.{Moving}
use Rattle.office_acts.specs.declared.moves.Moving.{Moving as Held}

abbrev pub moving_by : Held → Moving
moving_by held = record { plan = held.plan.now; unit = held.unit.now; candidate = held.candidate; from = held.from }
