use Rattle.std.proofs.Common.{◌∙◌, sym, ap, ◌+◌, ℕ, Option}
use Rattle.std.specs.Option.{option_or}
use Rattle.record_history.specs.Held.{records_of}
use Rattle.office_step.specs.{declared.refusal.Refusal.Refusal, Refusals.household_overdue}
use Rattle.office_refusals.proofs.FirstOf.{first_household-more}
use Rattle.office_refusals.proofs.lateness.overdue.Goals as goal

pub loop-place-preserved : goal.loop-place-preserved
loop-place-preserved c =
    let refused : ℕ → Option Refusal = λ household. household_overdue (records_of c.args.history.now.households household) c.args.month household in
    c.late_so_far-late.ensures
    ∙ ap (λ (found : Option Refusal). option_or found (refused (c.loop-place.place + 1))) c.loop-place.invariant
    ∙ sym (first_household-more refused c.loop-place.place)
