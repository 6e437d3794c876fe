-- That an act which isn't refused is accepted, and of which household its record is.
use Rattle.std.proofs.Common.{◌≡◌, refl, ℕ, ◌≤◌, Option, Some, None, true, arith}
use Rattle.std.specs.Prelude.{Result, Ok, Err, IfOk, IfSome}
use Rattle.days_core.specs.OfficeDays.{last_office_day}
use Rattle.record_history.specs.declared.records.Record.{Record}
use Rattle.book_rows.specs.{declared.command.Command.Command, Fit.is_fit}
use Rattle.admission_order.specs.Below.office_step.{declared.refusal.Refusal.Refusal, Known.Known, Made.record_of, Against.refused_by}
use Rattle.admission_order.specs.Below.office_register.Accepted.{IsAccepted}
use Rattle.admission_order.proofs.Below.office_register.Next.{accepted_new, accepted_there}
use Rattle.office_acts.specs.Judged.{judged_by, IsPlaced}

module _ (known : Known) (most today : ℕ) (asked : Command) (few : most ≤ 100000) (lived : today ≤ last_office_day) (fit : is_fit asked ≡ true) where
  pub accepted : (result : Result (Option Record) Refusal) → result ≡ judged_by (refused_by known most today asked) (record_of known asked) →
      IfOk result (λ made. IsAccepted known asked made)
  accepted (Err refused) judged = tt
  accepted (Ok made) judged = by_refusal (refused_by known most today asked) refl judged
    where
      by_refusal : (refused : Option Refusal) → refused_by known most today asked ≡ refused → Ok made ≡ judged_by refused (record_of known asked) →
          IsAccepted known asked made
      by_refusal (Some refused) is judged = absurd (cc)
      by_refusal None is judged = record { most = most; today = today; few = few; lived = lived; fit = fit; free = is; is_made = cc }

-- the record of an accepted act is of a household that there is, or of the next
placed_as : (known : Known) (asked : Command) (made : Option Record) (r : Record) → IsAccepted known asked made → made ≡ Some r → IsPlaced known r
placed_as known (Command.Start start) made r accepted is = omega (arith, accepted_new known (Command.Start start) _ made r refl refl accepted is)
placed_as known (Command.Admit admit) made r accepted is = omega (arith, accepted_new known (Command.Admit admit) _ made r refl refl accepted is)
placed_as known (Command.Household act) made r accepted is = omega (arith, accepted_there known act made r accepted is)
placed_as known _ made r accepted is = let none = accepted.is_made in absurd (cc)

pub placed : (known : Known) (asked : Command) (result : Result (Option Record) Refusal) →
    IfOk result (λ made. IsAccepted known asked made) → IfOk result (λ made. IfSome made (IsPlaced known))
placed known asked (Err refused) is = tt
placed known asked (Ok None) is = tt
placed known asked (Ok (Some r)) is = placed_as known asked (Some r) r is refl
