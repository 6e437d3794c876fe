-- What is deducted from the annual income that a record certifies, in plain facts (24 CFR 5.611).
use Rattle.std.specs.Prelude.{◌≡◌, ◌≢◌, ◌≤◌, ◌<◌, ◌+◌, ◌-◌, ◌*◌, ◌⊎◌, min, ℕ, Bool, true, count_by, Contains}
use Rattle.days_core.specs.Calendar.{age_on}
use Rattle.facts_core.specs.declared.{members.Relation.Relation, members.Member.Member, facts.Facts.Facts}
use Rattle.income_rules.specs.WholeList.{Tells}
use Rattle.office_laws.specs.Incomes.{IsEarnedIncome, only_of}

-- ---- whose

-- another member who is under 18, disabled or a full-time student (24 CFR 5.603(b))
abbrev pub IsDependent : ℕ → Member → Type 0
IsDependent day member = (member.relation ≡ Relation.Other) × ((age_on member.born day < 18) ⊎ ((member.disabled ≡ true) ⊎ (member.student ≡ true)))

-- a head, spouse or co-head who is 62 or more, or disabled: such a family is elderly or disabled (24 CFR 5.403)
abbrev pub IsElderlyOrDisabled : ℕ → Member → Type 0
IsElderlyOrDisabled day member =
    ((member.relation ≡ Relation.Head) ⊎ ((member.relation ≡ Relation.Spouse) ⊎ (member.relation ≡ Relation.Cohead)))
    × ((62 ≤ age_on member.born day) ⊎ (member.disabled ≡ true))

-- a member of the family under 13 (24 CFR 5.603(b))
abbrev pub IsYoungChild : ℕ → Member → Type 0
IsYoungChild day member = (member.relation ≢ Relation.Aide) × (age_on member.born day < 13)

-- an adult whose work the disability assistance makes possible (24 CFR 5.611(a)(3)(ii))
abbrev pub IsHelpedAdult : ℕ → Member → Type 0
IsHelpedAdult day member = (member.helped ≡ true) × (18 ≤ age_on member.born day)

-- some member is such
abbrev pub HasOne : Facts → (Member → Type 0) → Type 0
HasOne facts Is = (member : Member) × Contains facts.members member × Is member

-- ---- how much

-- 480 for each dependent (24 CFR 5.611(a)(1))
abbrev pub IsForDependents : Facts → ℕ → ℕ → Type 0
IsForDependents facts day amount = (test : Member → Bool) × Tells test (IsDependent day) × (amount ≡ 480 * count_by test facts.members)

-- 400 once for an elderly or disabled family (24 CFR 5.611(a)(2))
pub record IsForElderly (facts : Facts) (day amount : ℕ) : Type 0 where
  pub is : HasOne facts (IsElderlyOrDisabled day) → amount ≡ 400
  pub is_not : ¬ HasOne facts (IsElderlyOrDisabled day) → amount ≡ 0

-- where there is a child under 13, the care that makes work possible, up to what is earned so, and the care that makes
-- schooling possible (24 CFR 5.611(a)(4))
pub record IsForCare (facts : Facts) (day amount : ℕ) : Type 0 where
  pub earned : ℕ
  pub of_earned : IsEarnedIncome (only_of (λ member. member.cared) facts) day earned
  pub is : HasOne facts (IsYoungChild day) → amount ≡ min facts.care_work earned + facts.care_school
  pub is_not : ¬ HasOne facts (IsYoungChild day) → amount ≡ 0

-- disability assistance above three percent of income, up to what is earned so (24 CFR 5.611(a)(3)(ii))
pub record IsForDisability (facts : Facts) (day three amount : ℕ) : Type 0 where
  pub helped : Member → Bool
  pub tells : Tells helped (IsHelpedAdult day)
  pub earned : ℕ
  pub of_earned : IsEarnedIncome (only_of helped facts) day earned
  pub above : three < facts.disability → amount ≡ min (facts.disability - three) earned
  pub below : facts.disability ≤ three → amount ≡ 0

-- the medical expenses of an elderly or disabled family above what the assistance leaves of three percent of income
-- (24 CFR 5.611(a)(3)(i); that the three percent are taken first from the assistance is an own rule)
pub record IsForMedical (facts : Facts) (day three amount : ℕ) : Type 0 where
  pub above : HasOne facts (IsElderlyOrDisabled day) → three < facts.disability → amount ≡ facts.medical
  pub below : HasOne facts (IsElderlyOrDisabled day) → facts.disability ≤ three → amount ≡ facts.disability + facts.medical - three
  pub is_not : ¬ HasOne facts (IsElderlyOrDisabled day) → amount ≡ 0

-- Adjusted income: the annual income less the five, where that is positive (24 CFR 5.611). Three percent of income are
-- told to the dollar, half a dollar rounded up (own rule).
pub record IsAdjustedIncome (facts : Facts) (day annual adjusted : ℕ) : Type 0 where
  pub three : ℕ
  pub three_percent : 100 * three ≤ 3 * annual + 50
  pub to_the_dollar : 3 * annual + 50 < 100 * (three + 1)
  pub dependents : ℕ
  pub elderly : ℕ
  pub care : ℕ
  pub disability : ℕ
  pub medical : ℕ
  pub for_dependents : IsForDependents facts day dependents
  pub for_elderly : IsForElderly facts day elderly
  pub for_care : IsForCare facts day care
  pub for_disability : IsForDisability facts day three disability
  pub for_medical : IsForMedical facts day three medical
  pub is : adjusted ≡ annual - (dependents + elderly + care + disability + medical)
