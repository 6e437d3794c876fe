use Rattle.std.specs.Prelude.{◌≡◌}
use Rattle.record_history.specs.Held.{records_of}
use Rattle.office_step.specs.Refusals.{household_overdue, first_household}
use Rattle.office_refusals.proofs.lateness.overdue.Given as goal

abbrev pub invariant-loop-place : goal.invariant-loop-place
invariant-loop-place l =
    l.late ≡ first_household (λ household. household_overdue (records_of l.history.households household) l.month household) l.place
