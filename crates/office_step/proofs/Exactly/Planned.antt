-- 2 to 4: the plan and the room of the book.
use Rattle.std.proofs.Common.{◌≡◌, refl, ℕ, Bool, true, false, Option, Some, None, if◌then◌else◌, not, ◌&&◌, nat_le}
use Rattle.std.specs.Prelude.{is_some}
use Rattle.std.proofs.lemmas.{Bool.leb-true, Bool.le-leb}
use Rattle.std.specs.Option.{option_map}
use Rattle.office_step.specs.{declared.refusal.Refusal.Refusal}
use Rattle.office_step.proofs.Exactly.Options.{refused_if-some, map-some}
use Rattle.office_step.specs.plain.Planned.{NoPlanIsPlain, IsSecondPlan, PlanGivenIsPlain, BookFullIsPlain}

neither : (gives : Bool) (act : Option ℕ) → (not gives && not (is_some act)) ≡ true → (gives ≡ false) × (act ≡ None)
neither false None is = (refl, refl)
neither false (Some act) is = absurd (cc)
neither true act is = absurd (cc)

pub no_plan_is_plain : NoPlanIsPlain
no_plan_is_plain about refusal = (
  λ is. (let has = refused_if-some (not about.gives_plan && not (is_some about.known.plan_act)) Refusal.NoPlan refusal is in
      let both = neither about.gives_plan about.known.plan_act has.0 in
      record { told = has.1; is_none = both.0; none_yet = both.1 }),
  λ stands. rw (stands.is_none, stands.none_yet, stands.told) refl,
)

pub plan_given_is_plain : PlanGivenIsPlain
plan_given_is_plain about refusal = (
  λ is. by_plan about.gives_plan refl is,
  λ stands. rw (stands.is_one, stands.given, stands.told) refl,
)
  where
    by_plan : (gives : Bool) → about.gives_plan ≡ gives →
        (if gives then option_map (λ act. Refusal.PlanGiven act) about.known.plan_act else None) ≡ Some refusal → IsSecondPlan about refusal
    by_plan true gives is =
        let given = map-some (λ act. Refusal.PlanGiven act) about.known.plan_act refusal is in
        record { act = given.0; told = given.2; is_one = gives; given = given.1 }
    by_plan false gives is = absurd (cc)

pub book_full_is_plain : BookFullIsPlain
book_full_is_plain most about refusal = (
  λ is. (let has = refused_if-some (nat_le most about.known.count) (Refusal.BookFull about.known.count) refusal is in
      record { told = has.1; full = leb-true most about.known.count has.0 }),
  λ stands. rw (le-leb most about.known.count stands.full, stands.told) refl,
)
