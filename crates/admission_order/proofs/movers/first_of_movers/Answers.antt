use Rattle.std.proofs.Common.{refl}
use Rattle.office_register.specs.Below.office_step.Candidates.{mover_of}
use Rattle.admission_order.specs.Turns.{is_turn}
use Rattle.admission_order.proofs.Turn.{movers-more}
use Rattle.admission_order.proofs.movers.first_of_movers.Goals as goal

pub loop-place-preserved : goal.loop-place-preserved
loop-place-preserved c =
    let of_household = mover_of c.args.vacancy.now.plan.now c.args.vacancy.now.unit.now c.args.vacancy.now.day c.args.vacancy.now.requests.now c.args.vacancy.now.history.now.households in
    rw (c.sooner-first.ensures, c.loop-place.invariant, c.mover_of-mover.ensures, movers-more (is_turn c.args.vacancy.now.unit.now c.args.needing) of_household c.loop-place.place) refl
