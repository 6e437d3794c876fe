-- Admissions and transfers take the next candidate.
use Rattle.office_laws.proofs.Words.{nat_tests, common_steps, arith, Refusal, ◌≡◌, refl, ℕ, false, Option, Some, None, is_some, if◌then◌else◌, Plan, unit_at, Command, Known, known_of, HouseholdChange, MoveIn, Passed, is_plan, none_such, are_there, matter_of, changing, option_and_then, Candidate}
use Rattle.std.proofs.Common.{subst}
use Rattle.rent_table.specs.declared.rows.Unit.{Unit as UnitRow}
use Rattle.rent_table.specs.Table.{limits_on}
use Rattle.wait_list.specs.{Next.Asked, Next.next_candidate, RightfulNext.IsRightAnswer}
use Rattle.wait_list.proofs.PlainNext.{next_is_plain}
use Rattle.office_step.specs.{Candidates.asked_of, Candidates.targets_of, Known.UnitsAreNumbered}
use Rattle.office_step.specs.declared.refusal.Named.{Named}
use Rattle.office_step.specs.Against.{moving_on, next_for, other_next, not_next}
use Rattle.office_laws.specs.{Movers.IsAsked, Targets.AreCounted, Taken.TakesNextBy, Taken.IsNextFor, Taken.TakesNext}
use Rattle.office_step.proofs.Exactly.Numbered.{found_by_number}
use Rattle.office_laws.proofs.{AllSound.reached_books_are_sound, Inversion.passes, Movers.asked_is_plain, Targets.targets_are_counted, Reached.plan_there}
use Rattle.office_laws.proofs.laws.next_is_taken.Goals as goal

-- what a test missed that doesn't stand is there
some_there : {X : Type 0} (found : Option X) (why : Refusal) → (if is_some found then None else Some why) ≡ None → (x : X) × (found ≡ Some x)
some_there (Some x) why none = (x, refl)
some_there None why none = absurd (cc)

is_the_next : (next : Option Candidate) (asked : Candidate) → other_next next asked ≡ None → next ≡ Some asked
is_the_next next asked none = grind (arith, common_steps, nat_tests, none)

-- what an office asks is so by what is known
abbrev AsksPlainly : Known → Type 0
AsksPlainly known = (plan : Plan) (unit : UnitRow) (day : ℕ) →
    IsAsked known plan unit day (asked_of plan unit day (limits_on known.limits day) known.requests known.households)

abbrev CountsPlainly : Known → Type 0
CountsPlainly known = (plan : Plan) (day : ℕ) → known.plan ≡ Some plan → AreCounted known plan day (targets_of plan day known.households)

module _ (known : Known) (numbered : UnitsAreNumbered known.units) (asks : AsksPlainly known) (counts : CountsPlainly known) where
  -- who moves is next
  is_taken : (mover : MoveIn) → (plan : Plan) × (known.plan ≡ Some plan) → none_such Named.Unit (λ unit. is_some (unit_at known.units unit)) (Some mover.unit) ≡ None →
      option_and_then (λ move. other_next (next_for known move) move.candidate) (option_and_then (moving_on known mover) known.plan) ≡ None →
      IsNextFor known mover.unit mover.from mover.candidate
  is_taken mover (plan, is_plan) there none =
      let unit = some_there (unit_at known.units mover.unit) _ there in
      let found = (found_by_number known.units mover.unit unit.0 numbered).0 unit.1 in
      let asked : Asked = asked_of plan unit.0 mover.from (limits_on known.limits mover.from) known.requests known.households in
      let next : next_candidate asked known.waiting ≡ Some mover.candidate = is_the_next _ mover.candidate (rw (is_plan, unit.1) at none) in
      record {
        plan = plan;
        row = unit.0;
        asked = asked;
        targets = targets_of plan mover.from known.households;
        is_plan = is_plan;
        held = found.0;
        numbered = found.1;
        is_asked = asks plan unit.0 mover.from;
        counted = counts plan mover.from is_plan;
        rightly = subst (IsRightAnswer (targets_of plan mover.from known.households) asked known.waiting) next
            (next_is_plain (targets_of plan mover.from known.households) asked known.waiting refl);
      }

  takes_next : (most today : ℕ) (asked : Command) → (is_plan asked ≡ false → (plan : Plan) × (known.plan ≡ Some plan)) →
      Passed known most today asked → TakesNext known asked
  takes_next most today (Command.Admit admit) plan free =
      is_taken _ (plan refl) (are_there (matter_of known (Command.Admit admit)) free.no_such).unit free.not_next
  takes_next most today (Command.Household act) plan free =
      by_change act.change (are_there (matter_of known (Command.Household act)) free.no_such).unit free.not_next
    where
      by_change : (done : HouseholdChange) → none_such Named.Unit (λ unit. is_some (unit_at known.units unit)) (changing known act done).unit ≡ None →
          not_next (changing known act done) ≡ None → TakesNextBy known act.household done
      by_change (HouseholdChange.Transfer transfer) named none = is_taken _ (plan refl) named none
      by_change _ named none = tt
  takes_next most today _ plan free = tt

pub returns : goal.returns
returns c capacity book rows reached appends =
    takes_next (known_of book) (reached_books_are_sound capacity book reached appends.call.command).numbered (asked_is_plain capacity book reached)
    (targets_are_counted capacity book reached) capacity.acts rows.act.day appends.call.command (plan_there capacity book rows reached appends) (passes capacity book rows appends)
