-- What it comes to that nothing refuses an act, where the record that it makes is known.
use Rattle.std.proofs.Common.{◌≡◌, ◌∙◌, ap, ap₂, refl, ℕ, ◌<◌, arith, List, [], ◌∷◌, Option, Some, None, option_and_then, slice_index_or, if◌then◌else◌}
use Rattle.std.proofs.lemmas.Bool.{eq-eqb, Decides.nat_tests}
use Rattle.rent_table.specs.declared.{plan.Plan.Plan}
use Rattle.rent_table.specs.Admission.{suits}
use Rattle.record_history.specs.{declared.records.Record.Record}
use Rattle.office_step.specs.{declared.refusal.Refusal.Refusal, declared.rightful.Rightful.Rightful, Known.own_in, Households.change_by, Made.record_in}
use Rattle.office_step.specs.Matter.{Matter}
use Rattle.office_step.specs.Refusals.{first_of, refused_unless}
use Rattle.office_step.specs.Against.{no_plan, plan_given, book_full, no_such, stale, unseen, facts_rule, day_range, no_rent, no_limits, not_live, wrong_day, disorder, name_taken, size_misfit, unit_taken, not_next, ineligible, no_assistance, wrong_month, rent_due, overdue, tests_on, out_of_order, may_collide, taken, above_limit, nothing_paid, moving_of, right_of, by_payment, wrong}
use Rattle.office_step.proofs.Passed.{none_at}

-- ---- the tests that ask about the record, by the record

abbrev disorder_by : Matter → Option Record → Option Refusal
disorder_by about made =
    option_and_then (λ household. option_and_then (λ r. out_of_order (own_in about.known r.household) (change_by r)) made) about.household

abbrev misfit_by : Matter → Option Record → Option Refusal
misfit_by about made = option_and_then (λ move. option_and_then (λ r.
    refused_unless (suits move.plan move.unit r.persons) (Refusal.SizeMisfit move.unit.number r.persons)) made) (moving_of about)

abbrev pub taken_by : Matter → Option Record → Option Refusal
taken_by about made =
    if may_collide about then option_and_then (λ r. taken about.known.households r.household (change_by r)) made else None

abbrev ineligible_by : Matter → Option Record → Option Refusal
ineligible_by about made = option_and_then (λ applicant. option_and_then (above_limit about.known) made) about.applicant

abbrev borne_by : Matter → Option Record → Option Refusal
borne_by about made = if about.begins then option_and_then nothing_paid made else None

-- those that ask about no day of the calendar, no other household and no applicant
abbrev plain_tests : Matter → Option Record → List (Option Refusal)
plain_tests about made =
    no_plan about ∷ plan_given about ∷ no_such about ∷ stale about ∷ unseen about ∷ facts_rule about ∷ no_rent about ∷ no_limits about ∷ not_live about
    ∷ disorder_by about made ∷ name_taken about ∷ misfit_by about made ∷ ineligible_by about made ∷ borne_by about made ∷ wrong_month about ∷ []

-- none of all refuses what makes that record
pub record Passes (today : ℕ) (about : Matter) (made : Option Record) : Type 0 where
  pub plain : first_of (plain_tests about made) ≡ None
  pub days : day_range today about ≡ None
  pub right : wrong_day about ≡ None
  pub apart : taken_by about made ≡ None
  pub next : not_next about ≡ None
  pub rents : rent_due about ≡ None
  pub annuals : overdue about ≡ None

-- ---- all of them

pub also : (test : Option Refusal) (tests : List (Option Refusal)) → test ≡ None → first_of tests ≡ None → first_of (test ∷ tests) ≡ None
also test tests none rest = rw none rest

not_full : (most : ℕ) (about : Matter) → about.known.count < most → book_full most about ≡ None
not_full most about room = grind (arith, nat_tests)

module _ (most today : ℕ) (about : Matter) (made : Option Record) (is : record_in about ≡ made) (room : about.known.count < most)
    (passes : Passes today about made) where
  plain : (place : ℕ) → slice_index_or (plain_tests about made) place None ≡ None
  plain place = none_at (plain_tests about made) place passes.plain

  pub none_stands : first_of (tests_on most today about) ≡ None
  none_stands =
      also (no_plan about) _ (plain 0) (
      also (plan_given about) _ (plain 1) (
      also (book_full most about) _ (not_full most about room) (
      also (no_such about) _ (plain 2) (
      also (stale about) _ (plain 3) (
      also (unseen about) _ (plain 4) (
      also (facts_rule about) _ (plain 5) (
      also (day_range today about) _ passes.days (
      also (no_rent about) _ (plain 6) (
      also (no_limits about) _ (plain 7) (
      also (not_live about) _ (plain 8) (
      also (wrong_day about) _ passes.right (
      also (disorder about) _ (ap (disorder_by about) is ∙ plain 9) (
      also (name_taken about) _ (plain 10) (
      also (size_misfit about) _ (ap (misfit_by about) is ∙ plain 11) (
      also (unit_taken about) _ (ap (taken_by about) is ∙ passes.apart) (
      also (not_next about) _ passes.next (
      also (ineligible about) _ (ap (ineligible_by about) is ∙ plain 12) (
      also (no_assistance about) _ (ap (borne_by about) is ∙ plain 13) (
      also (wrong_month about) _ (plain 14) (
      also (rent_due about) _ passes.rents (
      also (overdue about) [] passes.annuals refl)))))))))))))))))))))

-- ---- rightful days

-- a record that begins on its rightful day
pub on_right_day : (about : Matter) (from : ℕ) → about.from ≡ Some from → right_of about about.target ≡ Rightful.Only (Some from) → wrong_day about ≡ None
on_right_day about from begins right =
    ap₂ (λ (right : Rightful) (day : Option ℕ). option_and_then (wrong right) day) right begins ∙ rw (eq-eqb from from refl) refl

-- one that may begin on any
pub any_day : (about : Matter) → right_of about about.target ≡ Rightful.Any → wrong_day about ≡ None
any_day about any = ap (λ (right : Rightful). option_and_then (wrong right) about.from) any ∙ nothing about.from
  where
    nothing : (from : Option ℕ) → option_and_then (wrong Rightful.Any) from ≡ None
    nothing None = refl
    nothing (Some day) = refl

-- by the payment of the record that is made, and thirty days to report
pub right_by_payment : (about : Matter) (made : Record) (plan : Plan) (right : ℕ → ℕ → Rightful) → record_in about ≡ Some made → about.known.plan ≡ Some plan →
    by_payment about right ≡ right made.ttp plan.report_days
right_by_payment about made plan right is planned = rw (is, planned) refl
