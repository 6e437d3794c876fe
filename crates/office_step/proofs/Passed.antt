-- What it comes to that nothing stands against a command.
use Rattle.std.proofs.Common.{◌≡◌, refl, ℕ, zero, suc, ◌≤◌, Bool, true, false, List, [], ◌∷◌, ◌++◌, Option, Some, None, slice_index_or, length, nat_le, if◌then◌else◌}
use Rattle.std.specs.Prelude.{is_some}
use Rattle.std.specs.Option.{option_or, option_map_or}
use Rattle.std.proofs.lemmas.Bool.{and_parts, leb-true}
use Rattle.rent_table.specs.Table.{unit_at}
use Rattle.wait_list.specs.Waiting.{is_listed}
use Rattle.book_rows.specs.declared.command.Command.{Command}
use Rattle.office_step.specs.{declared.refusal.Refusal.Refusal, Known.Known, Matter.Matter, Matter.matter_of, Matter.own, Households.record_at, Refusals.first_of, Against.tests_of, Against.refused_by, declared.refusal.Named.Named}
use Rattle.office_step.specs.Against as against

-- where none of the tests stands, the one at that place doesn't
pub none_at : (tests : List (Option Refusal)) (place : ℕ) → first_of tests ≡ None → slice_index_or tests place None ≡ None
none_at [] place none = refl
none_at (Some r ∷ rest) place none = absurd (cc)
none_at (None ∷ rest) zero none = refl
none_at (None ∷ rest) (suc place) none = none_at rest place none

pub record Passed (known : Known) (most today : ℕ) (asked : Command) : Type 0 where
  pub no_plan : against.no_plan (matter_of known asked) ≡ None
  pub plan_given : against.plan_given (matter_of known asked) ≡ None
  pub book_full : against.book_full most (matter_of known asked) ≡ None
  pub no_such : against.no_such (matter_of known asked) ≡ None
  pub stale : against.stale (matter_of known asked) ≡ None
  pub unseen : against.unseen (matter_of known asked) ≡ None
  pub facts_rule : against.facts_rule (matter_of known asked) ≡ None
  pub day_range : against.day_range today (matter_of known asked) ≡ None
  pub no_rent : against.no_rent (matter_of known asked) ≡ None
  pub no_limits : against.no_limits (matter_of known asked) ≡ None
  pub not_live : against.not_live (matter_of known asked) ≡ None
  pub wrong_day : against.wrong_day (matter_of known asked) ≡ None
  pub disorder : against.disorder (matter_of known asked) ≡ None
  pub name_taken : against.name_taken (matter_of known asked) ≡ None
  pub size_misfit : against.size_misfit (matter_of known asked) ≡ None
  pub unit_taken : against.unit_taken (matter_of known asked) ≡ None
  pub not_next : against.not_next (matter_of known asked) ≡ None
  pub ineligible : against.ineligible (matter_of known asked) ≡ None
  pub no_assistance : against.no_assistance (matter_of known asked) ≡ None
  pub wrong_month : against.wrong_month (matter_of known asked) ≡ None
  pub rent_due : against.rent_due (matter_of known asked) ≡ None
  pub overdue : against.overdue (matter_of known asked) ≡ None

pub passed : (known : Known) (most today : ℕ) (asked : Command) → refused_by known most today asked ≡ None → Passed known most today asked
passed known most today asked none =
    let tests : List (Option Refusal) = tests_of known most today asked in
    record {
      no_plan = none_at tests 0 none;
      plan_given = none_at tests 1 none;
      book_full = none_at tests 2 none;
      no_such = none_at tests 3 none;
      stale = none_at tests 4 none;
      unseen = none_at tests 5 none;
      facts_rule = none_at tests 6 none;
      day_range = none_at tests 7 none;
      no_rent = none_at tests 8 none;
      no_limits = none_at tests 9 none;
      not_live = none_at tests 10 none;
      wrong_day = none_at tests 11 none;
      disorder = none_at tests 12 none;
      name_taken = none_at tests 13 none;
      size_misfit = none_at tests 14 none;
      unit_taken = none_at tests 15 none;
      not_next = none_at tests 16 none;
      ineligible = none_at tests 17 none;
      no_assistance = none_at tests 18 none;
      wrong_month = none_at tests 19 none;
      rent_due = none_at tests 20 none;
      overdue = none_at tests 21 none;
    }

-- the first that stands of some tests between two others
pub first_of-around : (before : Option Refusal) (tests : List (Option Refusal)) (after : Option Refusal) →
    first_of (before ∷ (tests ++ after ∷ [])) ≡ first_of (before ∷ first_of tests ∷ after ∷ [])
first_of-around (Some r) tests after = refl
first_of-around None tests after = among tests
  where
    among : (tests : List (Option Refusal)) → first_of (tests ++ after ∷ []) ≡ first_of (first_of tests ∷ after ∷ [])
    among [] = refl
    among (Some r ∷ tests) = refl
    among (None ∷ tests) = among tests

-- of two tests neither stands where the first that does is none
pub or_none : {A : Type 0} (first other : Option A) → option_or first other ≡ None → (first ≡ None) × (other ≡ None)
or_none None other none = (refl, none)
or_none (Some x) other none = absurd (cc)

-- a test that refuses did not
pub test_passed : (test : Bool) (refused : Refusal) → (if test then None else Some refused) ≡ None → test ≡ true
test_passed true refused none = refl
test_passed false refused none = absurd (cc)

-- the household of that number is there
pub household_there : (known : Known) (household : ℕ) → against.no_household known household ≡ None → (1 ≤ household) × (household ≤ length known.households)
household_there known household none =
    let both = and_parts (nat_le 1 household) (nat_le household (length known.households))
    (test_passed (against.is_household known household) (Refusal.NoSuch Named.Household household) none) in
    (leb-true 1 household both.0, leb-true household (length known.households) both.1)

-- what a command names is there
pub record AreThere (about : Matter) : Type 0 where
  pub household : against.none_such Named.Household (against.is_household about.known) about.household ≡ None
  pub applicant : against.none_such Named.Applicant (is_listed about.known.waiting) about.applicant ≡ None
  pub unit : against.none_such Named.Unit (λ unit. is_some (unit_at about.known.units unit)) about.unit ≡ None
  pub target : against.none_such Named.Record (λ target. option_map_or (against.may_be_named about) (record_at (own about) target) false) about.target ≡ None

pub are_there : (about : Matter) → against.no_such about ≡ None → AreThere about
are_there about none = record {
  household = none_at (against.names_in about) 0 none;
  applicant = none_at (against.names_in about) 1 none;
  unit = none_at (against.names_in about) 2 none;
  target = none_at (against.names_in about) 3 none;
}
