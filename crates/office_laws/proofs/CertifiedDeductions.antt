-- The adjusted income is what the deductions leave.
use Rattle.std.proofs.Common.{◌≡◌, ◌≢◌, ◌∙◌, ap, refl, ℕ, ◌+◌, ◌-◌, ◌*◌, ◌<◌, ◌≤◌, ◌⊎◌, min, inl, inr, arith, Bool, true, false, not, ◌||◌, if◌then◌else◌}
use Rattle.std.specs.Prelude.{◌↔◌, nat_le}
use Rattle.std.specs.List.{list_any}
use Rattle.std.proofs.lemmas.Bool.{false≢true, false_from_ne_true, ltb-true, ltb-false, lt-ltb, le-ltb, leb-true, le-leb, not-true, not_from_false, and_parts, and_from}
use Rattle.days_core.specs.{Calendar.age_on}
use Rattle.facts_core.specs.{declared.members.Relation.Relation, declared.members.Member.Member, declared.facts.Facts.Facts, Rules.is_aide}
use Rattle.income_rules.specs.{Members.is_head_or_partner, Members.is_under, WholeList.Tells, WholeList.NameMembers}
use Rattle.deduction_rules.specs.Deductions.{is_other, is_dependent, dependents_of, is_elderly_or_disabled, elderly_deduction_of, earned_by, is_young_child, child_care_of, three_percent_of, is_helped_adult, disability_deduction_of, medical_beyond, medical_deduction_of, adjusted_income_of}
use Rattle.office_step.proofs.Exactly.Options.{any-some, any-from}
use Rattle.office_laws.proofs.CertifiedEarnings.{earned_income_of}
use Rattle.office_laws.specs.Deductions.{IsDependent, IsElderlyOrDisabled, IsYoungChild, IsHelpedAdult, HasOne, IsForElderly, IsForCare, IsForDisability, IsForMedical, IsAdjustedIncome}

-- ---- tests

either : (a b : Bool) → (a || b) ≡ true → (a ≡ true) ⊎ (b ≡ true)
either true b is = inl refl
either false b is = inr is

from_either : (a b : Bool) → (a ≡ true) ⊎ (b ≡ true) → (a || b) ≡ true
from_either true b is = refl
from_either false b (inl is) = absurd (false≢true is)
from_either false b (inr is) = is

younger : (years : ℕ) (member : Member) (day : ℕ) → (is_under years member day ≡ true) ↔ (age_on member.born day < years)
younger years member day = (ltb-true (age_on member.born day) years, lt-ltb (age_on member.born day) years)

older : (years : ℕ) (member : Member) (day : ℕ) → (not (is_under years member day) ≡ true) ↔ (years ≤ age_on member.born day)
older years member day = (
  λ is. ltb-false (age_on member.born day) years (not-true (is_under years member day) is),
  λ by. not_from_false (is_under years member day) (le-ltb (age_on member.born day) years by),
)

other : (relation : Relation) → (is_other relation ≡ true) ↔ (relation ≡ Relation.Other)
other Relation.Other = (λ is. refl, λ is. refl)
other relation = (λ is. absurd (cc), λ is. ap is_other is)

heads : (relation : Relation) → (is_head_or_partner relation ≡ true) ↔ ((relation ≡ Relation.Head) ⊎ ((relation ≡ Relation.Spouse) ⊎ (relation ≡ Relation.Cohead)))
heads relation = (to relation, λ is. elim is [ inl e ↦ ap is_head_or_partner e | inr e ↦ elim e [ inl e ↦ ap is_head_or_partner e | inr e ↦ ap is_head_or_partner e ] ])
  where
    to : (relation : Relation) → is_head_or_partner relation ≡ true → (relation ≡ Relation.Head) ⊎ ((relation ≡ Relation.Spouse) ⊎ (relation ≡ Relation.Cohead))
    to Relation.Head is = inl refl
    to Relation.Spouse is = inr (inl refl)
    to Relation.Cohead is = inr (inr refl)
    to _ is = absurd (false≢true is)

no_aide : (relation : Relation) → (not (is_aide relation) ≡ true) ↔ (relation ≢ Relation.Aide)
no_aide Relation.Aide = (λ is. absurd (false≢true is), λ other. absurd (other refl))
no_aide _ = (λ is e. cc, λ other. refl)

dependent : (day : ℕ) → Tells (is_dependent day) (IsDependent day)
dependent day member =
    let young = younger 18 member day in (
      λ is.
          (let parts = and_parts (is_other member.relation) (is_under 18 member day || (member.disabled || member.student)) is in (
            (other member.relation).0 parts.0,
            elim (either (is_under 18 member day) (member.disabled || member.student) parts.1) [
              | inl under ↦ inl (young.0 under)
              | inr more ↦ inr (either member.disabled member.student more)
            ],
          )),
      λ both. and_from (is_other member.relation) (is_under 18 member day || (member.disabled || member.student)) ((other member.relation).1 both.0)
          (from_either (is_under 18 member day) (member.disabled || member.student) (elim both.1 [
            | inl under ↦ inl (young.1 under)
            | inr more ↦ inr (from_either member.disabled member.student more)
          ])),
    )

elderly : (day : ℕ) → Tells (is_elderly_or_disabled day) (IsElderlyOrDisabled day)
elderly day member = (
  λ is.
      (let parts = and_parts (is_head_or_partner member.relation) (nat_le 62 (age_on member.born day) || member.disabled) is in (
        (heads member.relation).0 parts.0,
        elim (either (nat_le 62 (age_on member.born day)) member.disabled parts.1) [
          | inl old ↦ inl (leb-true 62 (age_on member.born day) old)
          | inr disabled ↦ inr disabled
        ],
      )),
  λ both. and_from (is_head_or_partner member.relation) (nat_le 62 (age_on member.born day) || member.disabled) ((heads member.relation).1 both.0)
      (from_either (nat_le 62 (age_on member.born day)) member.disabled (elim both.1 [
        | inl old ↦ inl (le-leb 62 (age_on member.born day) old)
        | inr disabled ↦ inr disabled
      ])),
)

young_child : (day : ℕ) → Tells (is_young_child day) (IsYoungChild day)
young_child day member = (
  λ is.
      (let parts = and_parts (not (is_aide member.relation)) (is_under 13 member day) is in
      ((no_aide member.relation).0 parts.0, (younger 13 member day).0 parts.1)),
  λ both. and_from (not (is_aide member.relation)) (is_under 13 member day) ((no_aide member.relation).1 both.0) ((younger 13 member day).1 both.1),
)

helped_adult : (day : ℕ) → Tells (is_helped_adult day) (IsHelpedAdult day)
helped_adult day member = (
  λ is. (let parts = and_parts member.helped (not (is_under 18 member day)) is in (parts.0, (older 18 member day).0 parts.1)),
  λ both. and_from member.helped (not (is_under 18 member day)) both.0 ((older 18 member day).1 both.1),
)

module _ (facts : Facts) (test : Member → Bool) (Is : Member → Type 0) (tells : Tells test Is) where
  some_such : HasOne facts Is → list_any test facts.members ≡ true
  some_such (member, held, is) = any-from test facts.members member held ((tells member).1 is)

  none_such : ¬ HasOne facts Is → list_any test facts.members ≡ false
  none_such never =
      false_from_ne_true (list_any test facts.members) (λ any. (let by = any-some test facts.members any in never (by.0, by.1, (tells by.0).0 by.2)))

-- ---- amounts

module _ (facts : Facts) (day annual : ℕ) (named : NameMembers facts) where
  abbrev three : ℕ
  three = three_percent_of annual

  for_elderly : IsForElderly facts day (elderly_deduction_of facts day)
  for_elderly = record {
    is = λ has. ap (λ (b : Bool). if b then 400 else 0) (some_such facts (is_elderly_or_disabled day) (IsElderlyOrDisabled day) (elderly day) has);
    is_not = λ never. ap (λ (b : Bool). if b then 400 else 0) (none_such facts (is_elderly_or_disabled day) (IsElderlyOrDisabled day) (elderly day) never);
  }

  abbrev care : ℕ
  care = min facts.care_work (earned_by (λ member. member.cared) facts day) + facts.care_school

  for_care : IsForCare facts day (child_care_of facts day)
  for_care = record {
    earned = earned_by (λ member. member.cared) facts day;
    of_earned = earned_income_of (λ member. member.cared) facts day named;
    is = λ has. ap (λ (b : Bool). if b then care else 0) (some_such facts (is_young_child day) (IsYoungChild day) (young_child day) has);
    is_not = λ never. ap (λ (b : Bool). if b then care else 0) (none_such facts (is_young_child day) (IsYoungChild day) (young_child day) never);
  }

  for_disability : IsForDisability facts day three (disability_deduction_of facts annual day)
  for_disability = record {
    helped = is_helped_adult day;
    tells = helped_adult day;
    earned = earned_by (is_helped_adult day) facts day;
    of_earned = earned_income_of (is_helped_adult day) facts day named;
    above = λ more. ap (λ (b : Bool). if b then min (facts.disability - three) (earned_by (is_helped_adult day) facts day) else 0) (lt-ltb three facts.disability more);
    below = λ less. ap (λ (b : Bool). if b then min (facts.disability - three) (earned_by (is_helped_adult day) facts day) else 0) (le-ltb three facts.disability less);
  }

  in_elderly : HasOne facts (IsElderlyOrDisabled day) → medical_deduction_of facts annual day ≡ medical_beyond three facts.disability facts.medical
  in_elderly has =
      ap (λ (b : Bool). if b then medical_beyond three facts.disability facts.medical else 0) (some_such facts (is_elderly_or_disabled day) (IsElderlyOrDisabled day) (elderly day) has)

  for_medical : IsForMedical facts day three (medical_deduction_of facts annual day)
  for_medical = record {
    above = λ has more. in_elderly has ∙ ap (λ (b : Bool). if b then facts.medical else facts.disability + facts.medical - three) (lt-ltb three facts.disability more);
    below = λ has less. in_elderly has ∙ ap (λ (b : Bool). if b then facts.medical else facts.disability + facts.medical - three) (le-ltb three facts.disability less);
    is_not = λ never. ap (λ (b : Bool). if b then medical_beyond three facts.disability facts.medical else 0)
        (none_such facts (is_elderly_or_disabled day) (IsElderlyOrDisabled day) (elderly day) never);
  }

  three_is : (100 * three ≤ 3 * annual + 50) × (3 * annual + 50 < 100 * (three + 1))
  three_is = (omega arith, omega arith)

  pub adjusted_income : IsAdjustedIncome facts day annual (adjusted_income_of facts annual day)
  adjusted_income = record {
    three = three;
    three_percent = three_is.0;
    to_the_dollar = three_is.1;
    dependents = dependents_of facts day;
    elderly = elderly_deduction_of facts day;
    care = child_care_of facts day;
    disability = disability_deduction_of facts annual day;
    medical = medical_deduction_of facts annual day;
    for_dependents = (is_dependent day, dependent day, refl);
    for_elderly = for_elderly;
    for_care = for_care;
    for_disability = for_disability;
    for_medical = for_medical;
    is = refl;
  }
