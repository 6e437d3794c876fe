-- Which command gives a plan.
use Rattle.std.proofs.Common.{◌≡◌, refl, ℕ, Bool, false, not, ◌&&◌, None, is_some, subst}
use Rattle.book_rows.specs.declared.{command.Command.Command, household.HouseholdChange.HouseholdChange}
use Rattle.office_step.specs.{declared.refusal.Refusal.Refusal, Acts.plan_in, Known.Known, Matter.matter_of, Matter.said_in, Refusals.refused_if, Against.no_plan}

abbrev pub is_plan : Command → Bool
is_plan asked = is_some (plan_in asked)

no_change_is : (known : Known) (household : ℕ) (done : HouseholdChange) → (said_in known household done).gives_plan ≡ false
no_change_is known household (HouseholdChange.Annual annual) = refl
no_change_is known household _ = refl

plan_is : (known : Known) (asked : Command) → (matter_of known asked).gives_plan ≡ is_plan asked
plan_is known (Command.Household act) = no_change_is known act.household act.change
plan_is known _ = refl

-- where no plan was given, none but a plan is accepted
pub planned_by : (known : Known) (asked : Command) → no_plan (matter_of known asked) ≡ None →
    refused_if (not (is_plan asked) && not (is_some known.plan_act)) Refusal.NoPlan ≡ None
planned_by known asked none =
    subst (λ (gives : Bool). refused_if (not gives && not (is_some known.plan_act)) Refusal.NoPlan ≡ None) (plan_is known asked) none
