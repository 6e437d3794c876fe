use Rattle.std.proofs.Common.{◌∙◌, sym, ap, ◌+◌, ℕ, Option}
use Rattle.std.specs.Option.{option_or}
use Rattle.admission_order.specs.Below.office_step.{declared.refusal.Refusal.Refusal, Against.plan_day, Known.own_in, Refusals.household_rent_due}
use Rattle.admission_order.proofs.Below.office_refusals.FirstOf.{first_household-more}
use Rattle.office_acts.proofs.closing.first_rent_due.Goals as goal

pub loop-place-preserved : goal.loop-place-preserved
loop-place-preserved c =
    let known = c.args.register.now.known in
    let refused : ℕ → Option Refusal = λ household. household_rent_due (own_in known household) known.units known.rents (plan_day known) c.args.last household in
    c.due_so_far-due.ensures
    ∙ ap (λ (found : Option Refusal). option_or found (refused (c.loop-place.place + 1))) c.loop-place.invariant
    ∙ sym (first_household-more refused c.loop-place.place)
