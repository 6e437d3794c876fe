use Rattle.std.specs.Prelude.{◌≡◌}
use Rattle.admission_order.specs.Below.office_step.{Against.plan_day, Known.own_in, Refusals.household_rent_due, Refusals.first_household}
use Rattle.office_acts.proofs.closing.first_rent_due.Given as goal

abbrev pub invariant-loop-place : goal.invariant-loop-place
invariant-loop-place l =
    l.due ≡ first_household (λ household. household_rent_due (own_in l.register.known household) l.register.known.units l.register.known.rents (plan_day l.register.known) l.last household) l.place
