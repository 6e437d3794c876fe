-- Whoever is next is so rightly, in plain facts.
use Rattle.wait_list.proofs.Words.{◌≡◌, ◌∙◌, sym, ℕ, zero, suc, ◌-◌, ◌<◌, Bool, true, false, List, [], ◌∷◌, refl, inl, inr, Option, Some, None, ◌&&◌, ◌||◌, not, Contains, IsSomeAnd, if◌then◌else◌, option_map_or, Applicant, Asked, is_within_limit, is_extremely_low, is_candidate, stands_behind, common_steps, nat_tests, arith, false≢true, and_parts, and_from, false_from_ne_true, Candidate, needs, goes_before, NoApplicantNeeds, ApplicantIsFirst, IsRightful}
use Rattle.std.proofs.Common.{◌≤◌, ◌⊎◌, le-leb, nat_le}
use Rattle.std.proofs.lemmas.Bool.{leb-true}
use Rattle.std.proofs.lemmas.List.Elements.{All-contains}
use Rattle.std.specs.Prelude.{slice_get, slice_index_or}
use Rattle.rent_table.specs.{declared.plan.Bound.Bound, declared.rows.LimitRow.LimitRow, Admission.suits, Admission.admission_limit, Admission.limit_for}
use Rattle.row_choice.specs.Latest.{comes_before}
use Rattle.wait_list.specs.{declared.targets.Targets.Targets, Next.next_candidate, Target.wants_extremely_low, Wanted.IsWanted}
use Rattle.wait_list.specs.RightfulNext.{MayBeAdmitted, HasExtremelyLow, IsOfGroup, IsAhead, NoFamilyInNeed, FamilyIsNext, IsRightAnswer, NextIsPlain}
use Rattle.wait_list.proofs.{NextLaw.next-is_rightful, WantedLaw.wanted_is_plain}

-- ---- who may be admitted

-- where bounds that allow nobody stand for none, a test of the bounds at a place tells of those that are there
bounds_tell : (bounds : List Bound) (place persons : ℕ) →
    let bound = slice_index_or bounds place (record { least = 1; most = 0 }) in
    (nat_le bound.least persons && nat_le persons bound.most) ≡ true →
    IsSomeAnd (slice_get bounds place) (λ bound. (bound.least ≤ persons) × (persons ≤ bound.most))
bounds_tell [] place persons is = absurd (grind (arith, nat_tests, is))
bounds_tell (bound ∷ bounds) zero persons is =
    let parts = and_parts (nat_le bound.least persons) (nat_le persons bound.most) is in
    (leb-true bound.least persons parts.0, leb-true persons bound.most parts.1)
bounds_tell (bound ∷ bounds) (suc place) persons is = bounds_tell bounds place persons is

bounds_so : (bounds : List Bound) (place persons : ℕ) →
    IsSomeAnd (slice_get bounds place) (λ bound. (bound.least ≤ persons) × (persons ≤ bound.most)) →
    let bound = slice_index_or bounds place (record { least = 1; most = 0 }) in
    (nat_le bound.least persons && nat_le persons bound.most) ≡ true
bounds_so [] place persons is = absurd is
bounds_so (bound ∷ bounds) zero persons is =
    and_from (nat_le bound.least persons) (nat_le persons bound.most) (le-leb bound.least persons is.0) (le-leb persons bound.most is.1)
bounds_so (bound ∷ bounds) (suc place) persons is = bounds_so bounds place persons is

abbrev WithinLimits : Bool → ℕ → ℕ → LimitRow → Type 0
WithinLimits early annual size limits =
    (early ≡ true → annual ≤ slice_index_or limits.low (size - 1) 0) × (early ≡ false → annual ≤ slice_index_or limits.very_low (size - 1) 0)

limits_tell : (early : Bool) (annual size : ℕ) (limits : LimitRow) →
    nat_le annual (if early then limit_for limits.low size else limit_for limits.very_low size) ≡ true → WithinLimits early annual size limits
limits_tell true annual size limits is = (λ _. leb-true annual (limit_for limits.low size) is, λ not. absurd (false≢true (sym not)))
limits_tell false annual size limits is = (λ not. absurd (false≢true not), λ _. leb-true annual (limit_for limits.very_low size) is)

limits_so : (early : Bool) (annual size : ℕ) (limits : LimitRow) → WithinLimits early annual size limits →
    nat_le annual (if early then limit_for limits.low size else limit_for limits.very_low size) ≡ true
limits_so true annual size limits is = le-leb annual (limit_for limits.low size) (is.0 refl)
limits_so false annual size limits is = le-leb annual (limit_for limits.very_low size) (is.1 refl)

-- a test of the limits, where they stand
stand_tell : (test : LimitRow → Bool) (P : LimitRow → Type 0) → ((limits : LimitRow) → test limits ≡ true → P limits) → (limits : Option LimitRow) →
    option_map_or test limits false ≡ true → IsSomeAnd limits P
stand_tell test P tells None is = absurd (false≢true is)
stand_tell test P tells (Some limits) is = tells limits is

stand_so : (test : LimitRow → Bool) (P : LimitRow → Type 0) → ((limits : LimitRow) → P limits → test limits ≡ true) → (limits : Option LimitRow) →
    IsSomeAnd limits P → option_map_or test limits false ≡ true
stand_so test P so None is = absurd is
stand_so test P so (Some limits) is = so limits is

module _ (asked : Asked) (family : Applicant) where
  candidate_tells : is_candidate asked family ≡ true → MayBeAdmitted asked family
  candidate_tells is =
      let parts = and_parts (suits asked.plan asked.unit family.persons) (is_within_limit asked family) is in
      record {
        persons = bounds_tell asked.plan.bounds asked.unit.bedrooms family.persons parts.0;
        income = stand_tell (λ limits. nat_le family.annual (admission_limit asked.plan limits family.size)) (WithinLimits asked.plan.early family.annual family.size)
            (limits_tell asked.plan.early family.annual family.size) asked.limits parts.1;
      }

  candidate_so : MayBeAdmitted asked family → is_candidate asked family ≡ true
  candidate_so is =
      and_from (suits asked.plan asked.unit family.persons) (is_within_limit asked family)
      (bounds_so asked.plan.bounds asked.unit.bedrooms family.persons is.persons)
      (stand_so (λ limits. nat_le family.annual (admission_limit asked.plan limits family.size)) (WithinLimits asked.plan.early family.annual family.size)
      (limits_so asked.plan.early family.annual family.size) asked.limits is.income)

  low_tells : is_extremely_low asked family ≡ true → HasExtremelyLow asked family
  low_tells is =
      stand_tell (λ limits. nat_le family.annual (limit_for limits.extremely_low family.size)) (λ limits. family.annual ≤ slice_index_or limits.extremely_low (family.size - 1) 0)
      (λ limits. leb-true family.annual (limit_for limits.extremely_low family.size)) asked.limits is

  low_so : HasExtremelyLow asked family → is_extremely_low asked family ≡ true
  low_so is =
      stand_so (λ limits. nat_le family.annual (limit_for limits.extremely_low family.size)) (λ limits. family.annual ≤ slice_index_or limits.extremely_low (family.size - 1) 0)
      (λ limits. le-leb family.annual (limit_for limits.extremely_low family.size)) asked.limits is

-- ---- who goes first of a group

-- what it says of the tests that the other doesn't go before the next
pub record Passed (wanted low_next low_other behind : Bool) : Type 0 where
  pub preferred : wanted ≡ true → low_other ≡ true → low_next ≡ true
  pub ahead : (wanted ≡ true → low_next ≡ true → low_other ≡ true) → behind ≡ false

passed : (wanted low_next low_other behind : Bool) →
    ((wanted && (low_other && not low_next)) || (behind && not (wanted && (low_next && not low_other)))) ≡ false → Passed wanted low_next low_other behind
passed wanted low_next low_other behind is = record {
  preferred = λ w o. grind (arith, common_steps);
  ahead = λ same. grind (arith, common_steps, same);
}

ahead_of : (next other : Applicant) → stands_behind next other ≡ false → IsAhead next other
ahead_of next other not_behind = by_numbers next.rank next.act other.rank other.act not_behind
  where
    by_numbers : (rank act other_rank other_act : ℕ) → comes_before other_rank other_act rank act ≡ false →
        (rank < other_rank) ⊎ ((rank ≡ other_rank) × (act ≤ other_act))
    by_numbers rank act other_rank other_act not_behind = grind (arith, nat_tests)

same_need : (asked : Asked) (next other : Applicant) → IsOfGroup asked next other → needs asked other ≡ needs asked next
same_need asked next other same = by_tests asked.unit.accessible other.accessible next.accessible same
  where
    by_tests : (unit family_needs next_needs : Bool) → (unit ≡ true → family_needs ≡ next_needs) → (unit && family_needs) ≡ (unit && next_needs)
    by_tests true family_needs next_needs same = same refl
    by_tests false family_needs next_needs same = refl

no_need : (asked : Asked) (next : Applicant) → (asked.unit.accessible ≡ true → next.accessible ≡ false) → needs asked next ≡ false
no_need asked next not = by_tests asked.unit.accessible next.accessible not
  where
    by_tests : (unit next_needs : Bool) → (unit ≡ true → next_needs ≡ false) → (unit && next_needs) ≡ false
    by_tests true next_needs not = not refl
    by_tests false next_needs not = refl

nobody_in_need : (asked : Asked) (applicants : List Applicant) → NoApplicantNeeds asked applicants → NoFamilyInNeed asked applicants
nobody_in_need asked applicants none accessible other contains admitted =
    false_from_ne_true other.accessible (λ needs_it.
    false≢true
    (sym (All-contains (λ other. is_candidate asked other ≡ true → needs asked other ≡ false) applicants other none contains (candidate_so asked other admitted))
    ∙ and_from asked.unit.accessible other.accessible accessible needs_it))

-- ---- the law

module _ (targets : Targets) (asked : Asked) (applicants : List Applicant) (is_wanted : asked.wanted ≡ wants_extremely_low targets) where
  wanted_so : IsWanted targets → asked.wanted ≡ true
  wanted_so wanted = is_wanted ∙ (wanted_is_plain targets).1 wanted

  wanted_tells : asked.wanted ≡ true → IsWanted targets
  wanted_tells is = (wanted_is_plain targets).0 (sym is_wanted ∙ is)

  family : (next : Applicant) → ApplicantIsFirst asked applicants next → FamilyIsNext targets asked applicants next
  family next first =
      let behind : (other : Applicant) → Contains applicants other → MayBeAdmitted asked other → IsOfGroup asked next other →
      Passed asked.wanted (is_extremely_low asked next) (is_extremely_low asked other) (stands_behind next other) =
      λ other contains admitted same.
      passed asked.wanted (is_extremely_low asked next) (is_extremely_low asked other) (stands_behind next other)
      (All-contains (λ other. is_candidate asked other ≡ true → needs asked other ≡ needs asked next → goes_before asked other next ≡ false) applicants other first.first contains
      (candidate_so asked other admitted) (same_need asked next other same)) in
      record {
        listed = first.listed;
        admitted = candidate_tells asked next (and_from (suits asked.plan asked.unit next.persons) (is_within_limit asked next) first.suits first.within);
        wanted = λ wanted other contains admitted same low.
            low_tells asked next ((behind other contains admitted same).preferred (wanted_so wanted) (low_so asked other low));
        ahead = λ other contains admitted same unless.
            ahead_of next other ((behind other contains admitted same).ahead
            (λ wanted low. low_so asked other (unless (wanted_tells wanted) (low_tells asked next low))));
        no_mover_in_need = first.no_mover_needs;
        no_family_in_need = λ not. nobody_in_need asked applicants (first.no_applicant_needs (no_need asked next (λ _. not)));
        no_other_mover = λ not. first.no_mover (no_need asked next not);
      }

  answer : (next : Option Candidate) → IsRightful asked applicants next → IsRightAnswer targets asked applicants next
  answer None nobody = record {
    no_mover_in_need = nobody.no_mover_needs;
    no_other_mover = nobody.no_mover;
    no_family = λ other contains admitted.
        false≢true
        (sym (All-contains (λ applicant. is_candidate asked applicant ≡ false) applicants other nobody.no_applicant contains)
        ∙ candidate_so asked other admitted);
  }
  answer (Some (Candidate.Applicant number)) (next, is, first) = (next, is, family next first)
  answer (Some (Candidate.Household household)) (inl needing) = inl needing
  answer (Some (Candidate.Household household)) (inr (other, no_mover, no_applicant)) =
      inr (other, no_mover, nobody_in_need asked applicants no_applicant)

pub next_is_plain : NextIsPlain
next_is_plain targets asked applicants is_wanted =
    answer targets asked applicants is_wanted (next_candidate asked applicants) (next-is_rightful asked applicants)
