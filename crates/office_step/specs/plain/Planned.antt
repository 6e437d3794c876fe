-- When the plan or the room of the book stands against an act, in plain facts (docs/REFUSALS.md, 2 to 4).
use Rattle.std.specs.Prelude.{ℕ, ◌≡◌, ◌↔◌, ◌≤◌, true, false, Some, None}
use Rattle.office_step.specs.{declared.refusal.Refusal.Refusal, Matter.Matter, Against.no_plan, Against.plan_given, Against.book_full}

-- 2: there is no plan yet, and the act isn't one
pub record ComesBeforePlan (about : Matter) (refusal : Refusal) : Type 0 where
  pub told : refusal ≡ Refusal.NoPlan
  pub is_none : about.gives_plan ≡ false
  pub none_yet : about.known.plan_act ≡ None

abbrev pub NoPlanIsPlain : Type 0
NoPlanIsPlain = (about : Matter) (refusal : Refusal) → (no_plan about ≡ Some refusal) ↔ ComesBeforePlan about refusal

-- 3: the act is a plan, and there is a plan already, by that act
pub record IsSecondPlan (about : Matter) (refusal : Refusal) : Type 0 where
  pub act : ℕ
  pub told : refusal ≡ Refusal.PlanGiven act
  pub is_one : about.gives_plan ≡ true
  pub given : about.known.plan_act ≡ Some act

abbrev pub PlanGivenIsPlain : Type 0
PlanGivenIsPlain = (about : Matter) (refusal : Refusal) → (plan_given about ≡ Some refusal) ↔ IsSecondPlan about refusal

-- 4: the book has as many acts as it can hold, or more
pub record HasNoRoom (most : ℕ) (about : Matter) (refusal : Refusal) : Type 0 where
  pub told : refusal ≡ Refusal.BookFull about.known.count
  pub full : most ≤ about.known.count

abbrev pub BookFullIsPlain : Type 0
BookFullIsPlain = (most : ℕ) (about : Matter) (refusal : Refusal) → (book_full most about ≡ Some refusal) ↔ HasNoRoom most about refusal
