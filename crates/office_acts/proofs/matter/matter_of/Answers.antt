use Rattle.std.proofs.Common.{◌≡◌, ◌∙◌, ap, refl, ℕ}
use Rattle.book_rows.specs.declared.{command.Command.Command, household.HouseholdChange.HouseholdChange}
use Rattle.admission_order.specs.Below.office_step.{Known.Known, Matter.Matter, Matter.said_in, Matter.said_by}
use Rattle.office_acts.proofs.matter.matter_of.Goals as goal

in_known : (known : Known) (household : ℕ) (done : HouseholdChange) → (said_in known household done).known ≡ known
in_known known household (HouseholdChange.Annual annual) = refl
in_known known household _ = refl

by_known : (known : Known) (asked : Command) → (said_by known asked).known ≡ known
by_known known (Command.Household act) = in_known known act.household act.change
by_known known _ = refl

pub returns : goal.returns
returns c =
    let known : c.said_by.result.register.now.known ≡ c.args.register.now.known =
    ap (λ (about : Matter). about.known) c.said_by.ensures ∙ by_known c.args.register.now.known c.args.command.now in
    λ i. record (c.said_by.ensures i) { known = known i; basis = c.basis_of.ensures i }
