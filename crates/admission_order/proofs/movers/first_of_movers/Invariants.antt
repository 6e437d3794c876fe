use Rattle.std.specs.Prelude.{◌≡◌, filter}
use Rattle.std.specs.List.{range_with_len, filter_map}
use Rattle.office_register.specs.Below.office_step.Candidates.{mover_of}
use Rattle.admission_order.specs.Turns.{is_turn, first_of_movers}
use Rattle.admission_order.proofs.movers.first_of_movers.Given as goal

abbrev pub invariant-loop-place : goal.invariant-loop-place
invariant-loop-place l =
    l.first ≡ first_of_movers (filter (is_turn l.vacancy.unit.now l.needing) (filter_map (mover_of l.vacancy.plan.now l.vacancy.unit.now l.vacancy.day l.vacancy.requests.now l.vacancy.history.now.households) (range_with_len 1 l.place)))
